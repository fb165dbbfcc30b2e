-- Lemmas on one item more or less in a bag.
pub mod Exchanged
pub mod Greatest
pub mod Ranked
pub mod Strata
pub mod Sums
pub mod ItemsOfDays
