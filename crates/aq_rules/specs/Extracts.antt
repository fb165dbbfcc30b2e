-- A load that is tried, and the lines by which what stands becomes what an extract says (own).
pub mod Try
pub mod Changes
pub mod BroughtUpToDate
pub mod ExtractExamples
