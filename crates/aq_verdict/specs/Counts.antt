-- Counts of quarters and years, over what is kept of them.
use Rattle.std.specs.Prelude.{ℕ, Bool, nat_le, List, map, sum_by}
use Rattle.aq_rules.specs.Particles.QuarterCounts.{QuarterCounts, capture}
use Rattle.aq_rules.specs.Kept.Summaries.{PmQuarter, counts_of}

abbrev pub is_quarter_captured : PmQuarter → Bool
is_quarter_captured q = nat_le 75 (capture (counts_of q))

abbrev pub has_eleven : PmQuarter → Bool
has_eleven q = nat_le 11 q.creditable

abbrev pub creditable_in : List PmQuarter → ℕ
creditable_in quarters = sum_by (λ (counts : QuarterCounts). counts.creditable) (map counts_of quarters)
