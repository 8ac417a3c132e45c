pub mod Counting
pub mod LastCut
mod Closing
mod Ends
pub mod Steps
pub mod Given
