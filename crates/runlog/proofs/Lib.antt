pub mod Logs
mod Exists
pub mod Cuts
