-- Bags of items: what is kept of them, what is answered about them, and which bag is under a key of a tally.
pub mod Bags
pub mod Tallies
pub mod Sums
pub mod Ranks
pub mod StratumSums
pub mod AnyOrder
