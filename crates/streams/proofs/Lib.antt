pub mod Ints
pub mod Steps
pub mod DeltaLaws
pub mod PointLaws
pub mod UpTo
pub mod ScanningLaws
