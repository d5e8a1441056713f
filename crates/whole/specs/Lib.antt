pub mod Whole
pub mod Readings
