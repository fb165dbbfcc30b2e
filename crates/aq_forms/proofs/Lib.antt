-- Lemmas on the lines of a body.
pub mod Cuts
pub mod OfficeOrder
pub mod OfficePrinted
