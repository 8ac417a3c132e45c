pub mod Gain
pub mod Asked
