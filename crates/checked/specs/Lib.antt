pub mod Limits
pub mod Faults
pub mod Checked
pub mod Rewritable
pub mod Programs
