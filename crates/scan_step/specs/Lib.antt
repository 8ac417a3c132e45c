pub mod Stepping
pub mod Asked
