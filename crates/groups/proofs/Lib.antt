pub mod GroupLemmas
pub mod AddedLemmas
