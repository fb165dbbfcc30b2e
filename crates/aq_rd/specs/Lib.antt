pub mod Ranges
pub mod Tags
pub mod FieldPlaces
pub mod RdReading
pub mod Printing
