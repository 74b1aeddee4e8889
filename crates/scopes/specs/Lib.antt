pub mod Find
pub mod Known
pub mod First
