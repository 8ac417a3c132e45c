pub mod Lending
pub mod Measured
pub mod Paired
