-- What a verdict would be if events were concurred in or not (own).
pub mod Assumed
pub mod WhatIfExamples
