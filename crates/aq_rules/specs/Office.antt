-- The office: what stands, what its records say, and what a line and a load make of it (own).
pub mod Office
pub mod Monitors
pub mod Designation
pub mod Schedule
pub mod Season
pub mod Approval
pub mod Questions
pub mod QuestionExamples
pub mod Exclusion
pub mod Refusal
pub mod Load
pub mod Methods
pub mod OfficeExamples
pub mod RowOrder
pub mod Sameness
pub mod Unagreed
