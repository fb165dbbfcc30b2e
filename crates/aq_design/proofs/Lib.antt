-- Lemmas on design values.
pub mod DesignLemmas
pub mod WhatIfLemmas
pub mod CombinedLemmas
