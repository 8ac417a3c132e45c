pub mod Fine
pub mod FeasibleReply
pub mod Closed
