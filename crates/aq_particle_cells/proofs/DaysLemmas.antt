-- Lemmas on what is kept of the days of sites, and on the bags in which they count.
pub mod BagLemmas
pub mod DayLemmas
pub mod ItemCounts
pub mod Keys
pub mod ObservedLemmas
pub mod Replaced
pub mod ScheduleSpans
pub mod TimeLemmas
pub mod Told
pub mod Unobserved
pub mod Walks
pub mod YearDays
