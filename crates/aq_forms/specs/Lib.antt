-- The lines of a load's body, and office lines, as contracts see them.
pub mod BodyLines
pub mod OfficeReading
pub mod Actions
pub mod OfficeTags
