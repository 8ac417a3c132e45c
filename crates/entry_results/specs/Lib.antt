pub mod Handed
pub mod Written
