pub mod Turning
pub mod Reading
pub mod Trying
