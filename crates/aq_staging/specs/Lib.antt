-- What a load makes of an office, beside it.
pub mod OfficeView
pub mod Changes
pub mod Overlay
pub mod LateCopy
pub mod Identity
pub mod Staged
pub mod Refusals
pub mod Counts
pub mod Touched
pub mod Keys
pub mod Batch
pub mod Extracts
