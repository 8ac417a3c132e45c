-- The definitions that the contracts of `prefixes` cite.
pub mod Ways
pub mod Prefix
