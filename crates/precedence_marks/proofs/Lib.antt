pub mod Order
pub mod Filling
pub mod Judged
pub mod Told
pub mod Limits
