-- What is read as one site, and what the days of a quarter give it: PM2.5 and PM10.
pub mod Pm25
pub mod Pm10
