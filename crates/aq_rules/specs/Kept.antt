-- What is kept: summaries of quarters and years, the rows of an office, and the cells that a change of them reaches (own).
pub mod Summaries
pub mod SummaryVerdicts
pub mod Rows
pub mod RowChanges
pub mod Migration
pub mod RowExamples
pub mod Cells
pub mod Reach
pub mod ReachExamples
