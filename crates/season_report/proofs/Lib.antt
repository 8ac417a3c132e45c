pub mod Kept
pub mod Printed
pub mod Walk
