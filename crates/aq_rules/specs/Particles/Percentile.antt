-- The 98th percentile of a year's PM2.5 values and the 24-hour design value (40 CFR Part 50, Appendix N, 4.3(b) and 4.5, Table 1).
use Rattle.std.specs.Prelude.{ℕ, ◌+◌, ◌-◌, ◌/◌, ◌==◌, if◌then◌else◌, List, slice_get, Option, Some, None, ℤ, pos, ◌+ℤ◌}
use Rattle.aq_base.specs.Decimal.{half_up}
use Rattle.aq_rules.specs.Lists.{ranked}

-- the rank, counted from the greatest value: first for 1 to 50 counted samples, second to 100, and so on
abbrev pub rank_of : ℕ → ℕ
rank_of counted = (counted + 49) / 50

-- the value of that rank among the values, greatest first; none without a counted sample
abbrev pub percentile : List ℤ → ℕ → Option ℤ
percentile values counted = if counted == 0 then None else slice_get (ranked values) (rank_of counted - 1)

-- the mean of three years' percentiles, rounded half up to a whole µg/m3; none if one is missing
abbrev pub daily_value : Option ℤ → Option ℤ → Option ℤ → Option ℤ
daily_value (Some a) (Some b) (Some c) = Some (half_up (a +ℤ b +ℤ c) (pos 30))
daily_value _ _ _ = None
