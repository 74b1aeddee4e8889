pub mod Rules
pub mod Found
pub mod Faults
