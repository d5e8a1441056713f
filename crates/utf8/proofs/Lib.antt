pub mod Cases
pub mod Fronts
pub mod Decodes
pub mod Library
