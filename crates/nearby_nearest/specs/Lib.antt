pub mod Neighbours
pub mod Queries
