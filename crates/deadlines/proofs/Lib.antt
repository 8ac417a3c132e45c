pub mod Clock
pub mod Answer
pub mod Along
pub mod Stays
pub mod Lateness
mod Leaving
mod Filling
