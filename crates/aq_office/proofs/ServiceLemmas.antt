-- Lemmas of the service of an office.
pub mod Replied
pub mod Standing
