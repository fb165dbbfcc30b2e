-- What the calls of this crate promise, over the definitions of aq_rules.
pub mod AreaRows
pub mod NextYear
pub mod ExactMeans
