-- What the contracts cite.
pub mod Pens
