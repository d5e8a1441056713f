-- What the contracts cite.
pub mod Tally
