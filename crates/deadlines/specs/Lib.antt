pub mod Stays
pub mod Lateness
