-- The ten highest days of a year, of its rows: the greatest value first, and of equal ones the earlier day (own).
use Rattle.std.specs.Prelude.{◌≡◌, ℕ, suc, ◌+◌, Bool, if◌then◌else◌, List, [], ◌∷◌, take, codes, bytes_eq, Option, Some, None, option_map, ℤ, int_lt, Result, Ok, Err}
use Rattle.std.specs.List.{cons_option}
use Rattle.aq_base.specs.declared.monitor.Pollutant.{Pollutant}
use Rattle.aq_base.specs.declared.monitor.Pollutant.TheVariants.{Ozone, Pm25, Pm10}
use Rattle.aq_num.specs.DecimalIn.{decimal_in}
use Rattle.aq_num.specs.declared.decimal.NumberFault.{NumberFault}
use Rattle.aq_rules.specs.Listed.Highest.{RankedDay, TEN, days_ranked}
use Rattle.aq_pages.specs.Sheets.{Line}
use Rattle.aq_pages.specs.Numbers.{word_at}

-- where the value of a day stands in its row
unfoldable pub value_place : Pollutant → ℕ
value_place Ozone = 4
value_place Pm25 = 2
value_place Pm10 = 3

-- a day that is not ranked: one of ozone that is not valid, one of the particles that is excluded
unfoldable pub is_apart : Pollutant → Line → Bool
is_apart Ozone line = bytes_eq (word_at 2 line) (codes "N")
is_apart Pm25 line = bytes_eq (word_at 3 line) (codes "Y")
is_apart Pm10 line = bytes_eq (word_at 4 line) (codes "Y")

abbrev pub said : Result ℤ NumberFault → Option ℤ
said (Ok value) = Some value
said (Err fault) = None

-- the value by which a day is ranked, in thousandths, below 0 too
unfoldable pub ranked_value : Pollutant → Line → Option ℤ
ranked_value pollutant line = if is_apart pollutant line then None else said (decimal_in (word_at (value_place pollutant) line) 3)

-- a day before others, if it has a value
abbrev pub with_value : ℕ → Option ℤ → List RankedDay → List RankedDay
with_value day value rows = cons_option (option_map (λ v. record { day = day; value = v }) value) rows

-- the days that are ranked, by their places among the rows
abbrev pub ranked_from : Pollutant → ℕ → List Line → List RankedDay
ranked_from pollutant day [] = []
ranked_from pollutant day (line ∷ lines) = with_value day (ranked_value pollutant line) (ranked_from pollutant (day + 1) lines)

-- the ten highest of some days, in the order of the book
abbrev pub are_highest : List RankedDay → List RankedDay → Type 0
are_highest rows highest = highest ≡ take TEN (days_ranked rows)

unfoldable pub highest_days : Pollutant → List Line → List RankedDay
highest_days pollutant lines = take TEN (days_ranked (ranked_from pollutant 0 lines))

-- how many days at the front are above a value
abbrev pub place_in : ℤ → List RankedDay → ℕ
place_in value [] = 0
place_in value (row ∷ rows) = if int_lt value row.value then suc (place_in value rows) else 0
