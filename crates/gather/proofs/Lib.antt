pub mod Lists
pub mod Posts
pub mod Full
pub mod PostedLemmas
pub mod Causes
pub mod Crews
pub mod ReportLemmas
pub mod ReadingLemmas
