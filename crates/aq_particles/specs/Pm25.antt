-- What is read as one site, and what the days of a quarter give it.
pub mod QuarterValues
pub mod SiteDays
pub mod QuarterDays
