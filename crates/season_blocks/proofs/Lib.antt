pub mod Blocks
pub mod Joined
pub mod Lines
pub mod Parts
