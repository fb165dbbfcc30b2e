-- A pair of combined sites as the code has it, and its make-up samples.
pub mod Pairs
pub mod Makeups
