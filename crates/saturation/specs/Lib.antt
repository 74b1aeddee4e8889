pub mod Items
pub mod Calls
pub mod Leads
pub mod Work
pub mod Saturation
pub mod Starts
