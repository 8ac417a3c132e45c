mod Listing
mod Parts
pub mod Given
