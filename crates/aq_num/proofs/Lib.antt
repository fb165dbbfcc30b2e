pub mod Digits
pub mod HalfUp
pub mod Scan
pub mod Sums
