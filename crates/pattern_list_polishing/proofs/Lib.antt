pub mod Replies
pub mod Judging
pub mod Runs
pub mod NoPairs
