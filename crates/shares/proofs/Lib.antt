pub mod Taking
pub mod Turn
