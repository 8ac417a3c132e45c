pub mod Orders
pub mod Rows
pub mod Judging
pub mod Counts
pub mod Fine
pub mod Lists
