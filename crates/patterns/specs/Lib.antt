-- The definitions that the contracts of `patterns` cite.
pub mod Enumeration
pub mod Turn
