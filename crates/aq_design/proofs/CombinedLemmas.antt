-- Lemmas on the hours, the make-up samples, the years and the design values of a pair.
pub mod Spans
pub mod Taken
pub mod Credits
pub mod Quarters
pub mod Designs
