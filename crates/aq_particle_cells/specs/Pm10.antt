-- What is kept of PM10: days, strata, quarters and years.
pub mod Bound
pub mod Pm10Cells
pub mod Pm10Levels
pub mod Pm10Tallies
pub mod Strata
pub mod StrataTotals
