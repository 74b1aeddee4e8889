pub mod Own
pub mod Stops
pub mod Works
