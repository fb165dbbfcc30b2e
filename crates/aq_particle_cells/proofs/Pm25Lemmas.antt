-- Lemmas on what is kept of PM2.5.
pub mod Makeups
pub mod Negated
pub mod Pm25Exchange
pub mod Pm25Filling
pub mod Pm25Office
pub mod Pm25Quarter
pub mod Pm25Samples
pub mod Pm25Settled
pub mod Pm25Steps
pub mod Pm25Year
pub mod TopOfEight
