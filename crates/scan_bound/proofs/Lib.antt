pub mod Bound
pub mod Once
pub mod Shared
pub mod Cost
pub mod NoGain
pub mod Minima
pub mod Testing
