-- What a read gave, and the moments of a disk.
pub mod Pieces
pub mod Times
