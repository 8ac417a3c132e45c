pub mod States
pub mod Chain
pub mod Rows
mod Cells
pub mod Ends
