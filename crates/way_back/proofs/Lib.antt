pub mod Orders
pub mod Ranks
pub mod Index
pub mod Cuts
pub mod Replies
