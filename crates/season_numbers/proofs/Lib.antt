pub mod Added
pub mod Inserting
pub mod Order
