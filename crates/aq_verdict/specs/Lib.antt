-- What the calls of this crate promise, over the definitions of aq_rules.
pub mod Top
pub mod Places
pub mod Inserted
pub mod Counts
pub mod QuarterlyMean
pub mod Filled
pub mod Ranks
pub mod Designs
