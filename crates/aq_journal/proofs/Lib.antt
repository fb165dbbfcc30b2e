-- Lemmas on the images of the disk in memory, and on a journal's bytes both ways.
pub mod Images
pub mod Writes
pub mod Fields
pub mod Batches
pub mod Loop
pub mod Sizes
pub mod Journals
pub mod Scans
pub mod Placed
pub mod Moments
pub mod Frames
pub mod Gates
pub mod Enduring
pub mod Opens
pub mod Outliving
