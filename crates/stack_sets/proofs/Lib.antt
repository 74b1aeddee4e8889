pub mod PlaceLemmas
pub mod GrowLemmas
pub mod WithinLemmas
pub mod NodeLemmas
pub mod MemberLemmas
