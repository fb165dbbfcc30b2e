-- Lemmas on the order of places, and on entries.
pub mod PlaceOrder
pub mod EntryLemmas
pub mod SeriesLemmas
pub mod QuestionLemmas
pub mod SiteLemmas
pub mod LatestLemmas
pub mod ScheduleLemmas
pub mod ExclusionLemmas
pub mod AgreedLemmas
pub mod ReachLemmas
pub mod RuleLemmas
pub mod EventLemmas
pub mod RowCounts
pub mod HeldLemmas
pub mod LeftOutLemmas
