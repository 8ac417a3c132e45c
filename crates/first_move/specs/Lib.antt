-- The definitions of `first_move`.
pub mod FirstMove
