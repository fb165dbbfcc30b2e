-- The hours of a day's averages, those of eight days, the four greatest of some values, and what the days of a year give it.
pub mod DayHours
pub mod DaySpans
pub mod FourGreatest
pub mod YearDays
