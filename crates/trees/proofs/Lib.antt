pub mod Folds
pub mod Held
mod Counting
pub mod Plain
pub mod ByKind
mod GivesFirst
