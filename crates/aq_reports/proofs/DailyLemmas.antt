-- Lemmas on credits and on walks over days.
pub mod Credits
pub mod HighestDays
pub mod QuarterRows
pub mod Ranks
pub mod StrataPlaces
pub mod Walks
pub mod YearDays
