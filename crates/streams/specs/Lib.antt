pub mod Told
pub mod Streams
pub mod Written
pub mod Replied
pub mod Served
pub mod Ran
pub mod Ended
