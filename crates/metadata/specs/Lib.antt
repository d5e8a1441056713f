pub mod Metadata
pub mod Remaining
