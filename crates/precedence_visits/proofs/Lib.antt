pub mod Visits
pub mod Between
