pub mod Lines
pub mod Explained
