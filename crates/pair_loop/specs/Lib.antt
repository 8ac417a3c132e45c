pub mod PairLoop
pub mod Parts
