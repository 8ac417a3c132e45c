mod Opening
mod Stretching
pub mod Hopeless
pub mod Given
