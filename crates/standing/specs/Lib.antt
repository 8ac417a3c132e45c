-- The definitions that the contracts of `standing` and of the crates above it cite.
pub mod Places
pub mod Standing
