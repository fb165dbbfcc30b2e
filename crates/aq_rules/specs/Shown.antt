-- What is shown: sheets, their text and JSON, exports, and the generated loads (own).
pub mod Sheet
pub mod Sheets
pub mod ParticleSheets
pub mod OtherSheets
pub mod AreaSheets
pub mod WellFormed
pub mod Json
pub mod Export
pub mod Generator
pub mod ShownExamples
