pub mod Changes
pub mod Told
pub mod Next
pub mod Scanning
