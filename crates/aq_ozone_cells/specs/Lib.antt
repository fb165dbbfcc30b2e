-- What is kept of the days and years of sites.
pub mod Bound
pub mod FilledDays
pub mod Filling
pub mod KeptDays
pub mod OzoneCells
pub mod RankedMaxima
pub mod Settling
pub mod SiteKeys
pub mod YearTallies
