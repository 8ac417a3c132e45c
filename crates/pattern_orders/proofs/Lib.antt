pub mod Stores
pub mod Permutations
