-- The quarters and years of the profile, and the days of a quarter.
use Rattle.std.specs.Prelude.{ℕ, ◌≤◌, ◌<◌, ◌+◌, ◌&&◌, Bool, nat_le, nat_lt}
use Rattle.aq_base.specs.Calendar.{days_in_quarter, quarter_first}
use Rattle.aq_base.specs.declared.day.TheConstants.{FIRST_YEAR, LAST_YEAR, QUARTERS}

abbrev pub IsQuarter : ℕ → Type 0
IsQuarter quarter = quarter < QUARTERS

abbrev pub IsYear : ℕ → Type 0
IsYear year = (FIRST_YEAR ≤ year) × (year ≤ LAST_YEAR)

-- whether a day is one of a quarter
abbrev pub is_day_of : ℕ → ℕ → Bool
is_day_of quarter day = nat_le (quarter_first quarter) day && nat_lt day (quarter_first quarter + days_in_quarter quarter)
