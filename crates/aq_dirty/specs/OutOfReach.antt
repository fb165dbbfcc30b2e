-- Examples for the laws.
pub mod Examples
pub mod Outside
