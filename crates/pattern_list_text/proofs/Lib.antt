pub mod Digits
pub mod Rows
pub mod Texts
pub mod Lines
pub mod Examples
pub mod Stands
