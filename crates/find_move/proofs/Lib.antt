pub mod Steps
pub mod Routes
pub mod Patterns
pub mod Walking
