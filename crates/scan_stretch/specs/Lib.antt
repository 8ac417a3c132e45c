pub mod Stretch
pub mod Asked
