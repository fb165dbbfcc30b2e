-- The words of this crate's contracts.
pub mod Samples
pub mod Sizes
