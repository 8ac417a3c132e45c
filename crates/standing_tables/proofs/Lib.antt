pub mod Cells
pub mod Parts
pub mod Agreeing
pub mod Rows
