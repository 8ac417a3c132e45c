mod Places
mod Judging
mod Replies
