-- The office of a registry and a shelf, and a site's ozone hours as its monitors give them.
pub mod DayStates
pub mod OfficeView
pub mod Samples
pub mod DayCells
pub mod DaySums
