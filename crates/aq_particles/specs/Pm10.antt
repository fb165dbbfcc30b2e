-- The strata of a quarter's days so far, and what its days give it.
pub mod StrataSoFar
pub mod QuarterDays
