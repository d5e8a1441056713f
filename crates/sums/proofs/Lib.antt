-- Lemmas of the crate's proofs.
pub mod Folds
pub mod Values
