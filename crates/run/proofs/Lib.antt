pub mod Facts
pub mod Outcomes
pub mod Turn
pub mod Judged
pub mod Runs
pub mod Returns
