-- The days of a quarter one by one, and the quarter that their tally is.
pub mod CutLemmas
pub mod QuarterLemmas
