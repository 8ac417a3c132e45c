pub mod Copies
pub mod Undo
pub mod Judged
