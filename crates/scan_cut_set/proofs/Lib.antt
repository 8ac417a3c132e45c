pub mod Kept
pub mod Gain
pub mod FirstDue
pub mod Given
