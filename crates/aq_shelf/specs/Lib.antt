-- The shelf in the words of the book of rules, and how it keeps its rows.
pub mod Standing
pub mod Faults
pub mod Stretches
pub mod Places
pub mod Extents
