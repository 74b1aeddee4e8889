pub mod Nearness
pub mod Seeking
pub mod Counting
pub mod Visible
pub mod Details
pub mod Deep
