pub mod Growth
pub mod InTime
pub mod Filling
pub mod Held
pub mod Judged
pub mod Head
