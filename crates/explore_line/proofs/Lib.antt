pub mod Rows
pub mod Deciding
pub mod Accepted
