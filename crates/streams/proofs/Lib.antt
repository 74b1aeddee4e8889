pub mod Giving
pub mod Answered
