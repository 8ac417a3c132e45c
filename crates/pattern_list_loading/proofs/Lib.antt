pub mod Places
pub mod Misfits
pub mod Taking
pub mod Judging
pub mod Replies
pub mod Rulings
