-- Lemmas on what is kept of PM10.
pub mod Pm10Exchange
pub mod Pm10Filling
pub mod Pm10Keeps
pub mod Pm10Office
pub mod Pm10Quarter
pub mod Pm10Settled
pub mod Pm10Steps
pub mod StratumDays
pub mod StratumStarts
pub mod StratumSteps
pub mod TotalsRoom
