pub mod Marks
pub mod HeaderOpens
mod Constants
