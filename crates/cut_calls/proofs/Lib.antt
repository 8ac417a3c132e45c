pub mod ReconnectionReply
pub mod NextCutSet
pub mod ReconnectReply
pub mod FindMoveReply
