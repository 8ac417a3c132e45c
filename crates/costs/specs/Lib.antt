pub mod RouteCosts
pub mod Deltas
