pub mod Names
pub mod ReadAs
pub mod Sheets
