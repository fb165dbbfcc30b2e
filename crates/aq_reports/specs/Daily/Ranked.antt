-- Ranked days: those of a list of values, and the highest of them.
use Rattle.std.specs.Prelude.{◌≡◌, ℕ, suc, ◌+◌, if◌then◌else◌, Option, List, [], ◌∷◌, length, take, ℤ, int_lt, option_map}
use Rattle.std.specs.List.{cons_option}
use Rattle.aq_rules.specs.Listed.Highest.{RankedDay, TEN, days_ranked}
use Rattle.aq_reports.specs.declared.daily.ranked.Highest.{Highest}

-- a day before others, if it has a value
abbrev pub with_value : ℕ → Option ℤ → List RankedDay → List RankedDay
with_value day value rows = cons_option (option_map (λ v. record { day = day; value = v }) value) rows

-- the days from the first one on that have a value
abbrev pub ranked_from : ℕ → List (Option ℤ) → List RankedDay
ranked_from day [] = []
ranked_from day (value ∷ values) = with_value day value (ranked_from (day + 1) values)

-- how many days are ranked, and the ten highest
pub record IsHighest (rows : List RankedDay) (found : Highest) : Type 0 where
  pub ranked_is : found.ranked ≡ length (days_ranked rows)
  pub days_are : found.days.items ≡ take TEN (days_ranked rows)

-- how many days at the front are above a value
abbrev pub place_in : ℤ → List RankedDay → ℕ
place_in value [] = 0
place_in value (row ∷ rows) = if int_lt value row.value then suc (place_in value rows) else 0
