-- What the proofs share, and the laws of exact sums that a crate above cites.
mod Quotient
pub mod Sizes
pub mod Exact
pub mod Running
