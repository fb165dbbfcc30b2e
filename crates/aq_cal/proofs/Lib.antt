-- Lemmas on dates: jiff's calendar against the definitions, and laws for callers.
pub mod Dates
pub mod Counts
pub mod Lengths
pub mod Texts
pub mod Within
