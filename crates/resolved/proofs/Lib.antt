pub mod Each
pub mod Parts
pub mod Completing
pub mod Sequences
pub mod Counted
