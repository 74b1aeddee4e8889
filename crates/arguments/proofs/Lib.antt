pub mod Refusing
pub mod Reading
pub mod Walks
pub mod Values
