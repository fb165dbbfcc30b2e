pub mod Escapes
pub mod Names
pub mod Pieces
pub mod Ranks
pub mod Scales
