pub mod DayLemmas
pub mod RangeLemmas
pub mod TopLemmas
pub mod YearLemmas
