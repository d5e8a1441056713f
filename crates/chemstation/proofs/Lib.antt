pub mod Answers
pub mod Progress
pub mod Spectrum
pub mod Makes
