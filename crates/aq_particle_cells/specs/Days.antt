-- What is kept of the days of sites, and the bags in which they count.
pub mod KeptDays
pub mod Observed
pub mod SiteTimes
pub mod Spans
pub mod Tallied
