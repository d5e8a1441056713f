pub mod Puts
pub mod Digits
mod Words
mod Signs
