pub mod Limits
pub mod Moments
pub mod Met
pub mod Turns
pub mod Searched
pub mod Ends
pub mod Starts
pub mod Reports
