pub mod Parser
pub mod Exact
pub mod Gives
pub mod Cutting
pub mod PrintedDeed
pub mod Offsets
pub mod Text
