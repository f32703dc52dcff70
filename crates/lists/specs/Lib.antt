pub mod Lists
pub mod Between
