pub mod Question
pub mod Reading
pub mod Told
