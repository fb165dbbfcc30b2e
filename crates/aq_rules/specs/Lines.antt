-- The lines of a body: how they are cut, spelled and read, and how a value is written (AQS raw data transaction format; office lines are (own)).
pub mod Lines
pub mod Fields
pub mod Spellings
pub mod Forms
pub mod RdForm
pub mod OfficeForms
pub mod Reading
pub mod FormRules
pub mod Canonical
pub mod LineExamples
