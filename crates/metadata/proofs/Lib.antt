pub mod Constants
pub mod Gathers
pub mod Opens
pub mod Orderly
pub mod HeaderReads
