-- The definitions that the contracts of `standing_tables` cite.
pub mod Filling
