pub mod Answering
pub mod Counts
pub mod Errors
pub mod Fetching
pub mod Refusals
pub mod Turns
pub mod Visiting
pub mod Wires
