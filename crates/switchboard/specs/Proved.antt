-- What is proved of the definitions because a type or a trait carries it. A reader of contracts may leave it out.
pub mod Laws
pub mod Entries
pub mod PerBoxFacts
pub mod PerBoxOpens
