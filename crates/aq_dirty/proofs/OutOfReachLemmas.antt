-- Lemmas for the laws.
pub mod Hours
pub mod Windows
pub mod Years
pub mod Alike
pub mod PmDays
pub mod DaysOfQuarters
pub mod DaysRead
pub mod Schedules
pub mod PmQuarters
pub mod PmYears
pub mod StrataReached
pub mod OutsideEvents
