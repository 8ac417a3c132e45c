mod Moving
mod Whole
pub mod Alike
pub mod Reached
