pub mod Fetch
pub mod Headers
