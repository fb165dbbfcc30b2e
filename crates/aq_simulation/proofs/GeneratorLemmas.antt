-- Lemmas of this crate's proofs.
pub mod Sizes
pub mod Walks
pub mod Written
pub mod Given
