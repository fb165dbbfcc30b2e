-- The office's records by their places in the order of rows.
pub mod Agreed
pub mod Places
pub mod Records
pub mod Registry
pub mod Events
pub mod Rules
pub mod Changes
pub mod LineLaws
