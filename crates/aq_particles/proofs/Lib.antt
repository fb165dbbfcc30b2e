-- Lemmas on quarters and years of PM2.5 and PM10.
pub mod Pm25Lemmas
pub mod Pm10Lemmas
