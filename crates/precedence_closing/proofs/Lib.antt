pub mod Signs
pub mod Broken
pub mod Further
pub mod Closed
