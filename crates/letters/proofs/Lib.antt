pub mod Units
pub mod Fetched
