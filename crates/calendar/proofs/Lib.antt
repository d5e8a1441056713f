pub mod Days
pub mod Onward
