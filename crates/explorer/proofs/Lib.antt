pub mod Refusing
pub mod Within
