pub mod Words
pub mod Commas
pub mod Parts
pub mod Texts
