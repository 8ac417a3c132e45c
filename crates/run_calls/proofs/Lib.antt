pub mod RunReply
pub mod SharesReply
