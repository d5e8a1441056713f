-- What the contracts cite.
pub mod Doubles
pub mod Wholes
