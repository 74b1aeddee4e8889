pub mod Names
pub mod Holds
pub mod Moves
pub mod Pruned
