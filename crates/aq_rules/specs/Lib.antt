-- The book of rules: what the program must compute and keep, over plain lists and whole numbers.
pub mod Limits
pub mod Lists
pub mod Least
pub mod Standards
pub mod Lines
pub mod Office
pub mod Ozone
pub mod Particles
pub mod Kept
pub mod DesignValues
pub mod WhatIf
pub mod Combined
pub mod Areas
pub mod Shown
pub mod Listed
pub mod Extracts
pub mod Questions
