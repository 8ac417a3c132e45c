pub mod Polishing
