pub mod Suffixes
pub mod Words
pub mod Shallow
pub mod Declared
