pub mod Shares
pub mod Shared
