-- Lemmas on assumed concurrences and design values.
pub mod AsIf
pub mod StandingLemmas
pub mod Turned
