pub mod Opens
pub mod Sifting
