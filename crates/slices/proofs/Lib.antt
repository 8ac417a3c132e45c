pub mod LeftOver
pub mod Places
pub mod Slices
pub mod Sliced
pub mod Steps
pub mod Slicing
pub mod RestRows
pub mod Runs
