pub mod Bounds
pub mod Outcome
