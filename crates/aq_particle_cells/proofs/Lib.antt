-- Lemmas on what is kept of particles.
pub mod DaysLemmas
pub mod Pm25Lemmas
pub mod Pm10Lemmas
