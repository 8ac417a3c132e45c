pub mod NoGain
pub mod Tests
