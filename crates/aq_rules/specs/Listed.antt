-- What stands, listed: sites, monitors, events, flags, loads, completeness, the days behind a number, and the office as text (own).
pub mod Places
pub mod Sites
pub mod Monitors
pub mod Events
pub mod Flags
pub mod Loads
pub mod Completeness
pub mod Daily
pub mod Highest
pub mod Records
pub mod ObservationLines
pub mod LoadsBack
pub mod ListedExamples
