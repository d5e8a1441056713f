pub mod Runs
pub mod Log
