-- Lemmas on the order of keys, on stretches, on hours and on the whole shelf.
pub mod Order
pub mod HourLemmas
pub mod StretchLemmas
pub mod ExtentLemmas
pub mod ShelfLemmas
pub mod Cases
