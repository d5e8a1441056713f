pub mod States
pub mod Readings
