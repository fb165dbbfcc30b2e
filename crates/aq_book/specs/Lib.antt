-- The office of a book, and what a load makes of it.
pub mod View
pub mod Checks
pub mod Questions
pub mod Staged
pub mod Migrating
