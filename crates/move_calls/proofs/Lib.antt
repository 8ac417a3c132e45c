pub mod DoMoveReply
pub mod UndoReply
pub mod DoableReply
pub mod FirstSix
pub mod Cases
