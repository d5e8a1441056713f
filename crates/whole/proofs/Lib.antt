pub mod Adding
pub mod Kept
pub mod Exactly
