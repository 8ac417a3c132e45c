pub mod Bound
pub mod Prepared
pub mod Filling
