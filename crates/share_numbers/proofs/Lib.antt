pub mod EachRound
pub mod Running
pub mod Sums
pub mod Shared
pub mod Runs
