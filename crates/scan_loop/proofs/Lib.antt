pub mod Scanning
mod Passing
