pub mod Members
pub mod Order
pub mod Known
pub mod Old
pub mod Runs
