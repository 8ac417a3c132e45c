pub mod First
pub mod Listed
