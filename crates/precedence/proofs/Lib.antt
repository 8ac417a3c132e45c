pub mod Words
pub mod Kept
pub mod Growth
pub mod Heads
pub mod Tails
pub mod Filling
