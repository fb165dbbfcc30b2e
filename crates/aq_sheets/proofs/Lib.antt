-- Lemmas on the words and texts of sheets.
pub mod Csv
pub mod Digits
pub mod Lines
pub mod Sending
pub mod SheetJson
pub mod Words
