pub mod Padding
mod Classes
mod Filling
pub mod Preparing
