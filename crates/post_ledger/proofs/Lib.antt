pub mod Closing
pub mod Histories
pub mod Keeping
pub mod Orders
