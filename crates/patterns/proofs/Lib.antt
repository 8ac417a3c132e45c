-- The laws that the proofs of `patterns` and those of its callers share.
pub mod Strides
pub mod Counts
pub mod Turn
pub mod Enumeration
pub mod Reading
