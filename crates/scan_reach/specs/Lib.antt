pub mod Moving
pub mod Reach
