pub mod Lines
pub mod Refused
pub mod Explained
pub mod Replies
pub mod Told
pub mod Served
pub mod Ran
pub mod Ended
