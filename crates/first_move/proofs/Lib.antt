pub mod First
pub mod FirstMove
