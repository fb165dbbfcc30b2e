-- The changes for an extract, as the code makes them.
pub mod Samples
pub mod Judging
pub mod Texts
pub mod Said
pub mod Answers
