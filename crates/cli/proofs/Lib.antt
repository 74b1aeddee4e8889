pub mod Within
pub mod Refusing
pub mod Counting
pub mod Answering
