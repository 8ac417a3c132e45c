pub mod Barren
