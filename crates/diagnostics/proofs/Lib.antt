pub mod Appending
pub mod Escaping
pub mod Locating
