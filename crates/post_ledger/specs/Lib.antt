pub mod History
pub mod Kept
pub mod Orders
pub mod Sides
pub mod Row
