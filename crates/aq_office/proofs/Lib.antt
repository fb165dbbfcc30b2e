-- Lemmas on the answers to questions and on loads that are posted.
pub mod Areas
pub mod Asked
pub mod Assuming
pub mod Joining
pub mod Listing
pub mod OzoneMaxima
pub mod PostedLoads
pub mod Showing
pub mod Taking
pub mod ServiceLemmas
