-- Ozone, from the hours of a site to the verdict (40 CFR Part 50, Appendix U).
pub mod SiteHour
pub mod EightHour
pub mod OzoneDay
pub mod OzoneYear
pub mod OzoneVerdict
pub mod OzoneExamples
pub mod Unexcluded
