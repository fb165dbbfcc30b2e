-- What is kept of PM2.5: days, quarters and years.
pub mod Bound
pub mod DayValues
pub mod Pm25Cells
pub mod Pm25Levels
pub mod Pm25Tallies
