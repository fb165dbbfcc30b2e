-- What lists are made of: days of a monitor, due samples, months, sorted marks; and the last day.
pub mod DueSamples
pub mod EventSpans
pub mod EventWords
pub mod FlagWords
pub mod LastDay
pub mod Marks
pub mod MonitorDays
pub mod MonitorMonths
pub mod Registrations
