pub mod Inserted
pub mod Shifted
pub mod Pass
