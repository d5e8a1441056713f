pub mod Texts
pub mod Fetches
