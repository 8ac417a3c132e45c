-- The definitions that the contracts of `pattern_table` cite.
pub mod Table
