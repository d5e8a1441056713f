pub mod Stands
pub mod Library
