-- Rows: texts as they are walked, numbers in their ranges, and which observations can stand.
pub mod Standing
pub mod KeptLoads
pub mod Texts
pub mod Ranges
pub mod Observed
pub mod Loaded
pub mod Fitting
-- the rows of an office, one more row after them, what is known of a walk over rows, and when an office is not opened
pub mod OfficeRows
pub mod OneMoreRow
pub mod Opening
pub mod Walking
