-- Lemmas on rows.
pub mod Written
pub mod LoadMap
pub mod Words
pub mod Gathered
pub mod Chains
pub mod Observed
pub mod Codes
pub mod PairTexts
pub mod Loaded
-- an office from its rows
pub mod Following
pub mod LastObservation
pub mod LastRecord
pub mod MoreRows
pub mod PutLast
pub mod RisingEnds
pub mod WholeWalk
