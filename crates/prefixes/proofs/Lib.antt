pub mod Ways
pub mod Gathering
pub mod Tried
pub mod Candidates
pub mod Prefix
