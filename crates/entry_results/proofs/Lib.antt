pub mod Handing
pub mod Written
