pub mod PolishReply
pub mod PairLoopReply
