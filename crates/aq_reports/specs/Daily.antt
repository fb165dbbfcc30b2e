-- Rows of days, ranked days, and strata.
pub mod DayRows
pub mod Maxima
pub mod Ranked
pub mod StrataBegun
