pub mod Due
pub mod Dues
pub mod Parts
