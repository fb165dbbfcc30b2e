-- The questions about an office: one table of them, read in words and in paths, and the answer to each (own).
pub mod Spelling
pub mod Table
pub mod Asking
pub mod Answer
pub mod QuestionExamples
