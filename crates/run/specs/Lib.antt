pub mod Run
pub mod Round
