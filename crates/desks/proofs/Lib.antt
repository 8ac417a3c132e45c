pub mod Desks
pub mod Judging
pub mod Replies
pub mod Runs
