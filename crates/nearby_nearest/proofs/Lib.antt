pub mod FloatOrder
pub mod Passing
pub mod Found
pub mod Query
pub mod Nearness
