pub mod Rest
pub mod Asked
