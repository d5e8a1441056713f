pub mod Table
pub mod Editions
