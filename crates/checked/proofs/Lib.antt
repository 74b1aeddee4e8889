pub mod Works
pub mod Resolving
pub mod Rewriting
