pub mod Lengths
pub mod Falls
mod Ends
pub mod Owes
mod There
