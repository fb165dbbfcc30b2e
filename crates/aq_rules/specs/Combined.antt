-- What is computed of two combined sites as one (own wording of 40 CFR Part 50, Appendix U, 2(c)).
pub mod Pair
pub mod PairExamples
