-- What is kept of particles: days of either, and the quarters and years of PM2.5 and PM10.
pub mod Days
pub mod Pm25
pub mod Pm10
