-- The definitions that the contracts of `find_move` cite.
pub mod Walk
pub mod Search
pub mod Pairs
