pub mod Foot
