pub mod Checks
pub mod HeaderLaws
