pub mod Trees
pub mod Parts
