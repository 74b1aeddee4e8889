pub mod ResultLemmas
pub mod BeginLemmas
