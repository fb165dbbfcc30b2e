-- Lemmas on the cells that wait, on their steps, and on what a change costs.
pub mod CellsWithin
pub mod HeldOnce
pub mod HourCosts
pub mod NextParticles
pub mod OzoneYears
pub mod ParticleSteps
pub mod Pm10Quarters
pub mod Pm25Quarters
pub mod QuarterDays
pub mod ReachedLemmas
pub mod SettlingCosts
pub mod SiteSteps
pub mod UnreadRows
