-- The percentile among the greatest values of a year, which fall.
use Rattle.std.specs.Prelude.{ℕ, ◌+◌, ◌-◌, ◌==◌, if◌then◌else◌, List, length, slice_get, Option, None, ℤ}
use Rattle.std.specs.List.{flat_map}
use Rattle.aq_rules.specs.Particles.Percentile.{rank_of}
use Rattle.aq_rules.specs.Kept.Summaries.{PmQuarter}
use Rattle.aq_rules.specs.Kept.SummaryVerdicts.{kept_counted}
use Rattle.aq_verdict.specs.declared.substitution.Copies.{Copies}
use Rattle.aq_verdict.specs.Filled.{copies_of}

abbrev pub percentile_in : List ℤ → ℕ → Option ℤ
percentile_in values counted = if counted == 0 then None else slice_get values (rank_of counted - 1)

-- the counted samples of some quarters and the copies that join them
abbrev pub counted_with : List PmQuarter → List Copies → ℕ
counted_with quarters copies = kept_counted quarters + length (flat_map copies_of copies)
