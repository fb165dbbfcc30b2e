-- Lemmas on the days of a quarter and what is read as one site, and on the greatest values.
pub mod Greatest
pub mod Makeups
pub mod Counts
pub mod Values
pub mod DayTallies
pub mod MakeupDays
pub mod Facts
pub mod Years
pub mod OneSite
