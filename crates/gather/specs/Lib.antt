pub mod Findings
pub mod Ends
pub mod Lanes
pub mod Gathered
pub mod Through
pub mod Reports
