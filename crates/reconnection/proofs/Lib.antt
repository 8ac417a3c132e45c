pub mod Reversal
pub mod Segments
