pub mod List
pub mod Reading
pub mod Told
