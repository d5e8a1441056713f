pub mod State
pub mod Stored
