pub mod Lists
pub mod Works
