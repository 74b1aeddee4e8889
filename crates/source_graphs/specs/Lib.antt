pub mod Wide
pub mod Source
