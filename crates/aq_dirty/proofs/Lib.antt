-- Lemmas on spans: their order, one more of them, and the first numbers taken away.
pub mod SpanOrder
pub mod Added
pub mod Dropped
pub mod Ranges
pub mod Years
pub mod Reached
pub mod NextStart
pub mod Marks
pub mod Bounds
pub mod Members
-- Lemmas on days, quarters and strata, and what of them a change marks.
pub mod Along
pub mod DaySteps
pub mod StratumStarts
pub mod StratumSpans
pub mod ParticleRows
pub mod ParticleMarks
pub mod ParticleMembers
pub mod OutOfReachLemmas
