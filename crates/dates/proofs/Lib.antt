pub mod Sound
pub mod Complete
pub mod Walk
pub mod Ranges
pub mod Forms
