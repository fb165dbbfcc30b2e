-- PM2.5 and PM10, from the days of a site to the verdicts (40 CFR Part 50, Appendices N and K).
pub mod ParticleDay
pub mod QuarterCounts
pub mod Means
pub mod Percentile
pub mod YearParts
pub mod Substitution
pub mod AnnualVerdict
pub mod DailyVerdict
pub mod Strata
pub mod Pm10Estimate
pub mod Pm10Verdict
pub mod ParticleExamples
