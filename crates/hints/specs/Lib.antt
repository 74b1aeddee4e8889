pub mod Group
pub mod Front
pub mod Place
pub mod Row
pub mod Tables
pub mod Hint
