-- The hours of a day's averages: each has a cell or none. What is read as one site is a function of the hour.
use Rattle.std.specs.Prelude.{ℕ, ◌*◌, nat_le, if◌then◌else◌, Option, None, List, map, filter_map, IfSome}
use Rattle.std.specs.List.{range_with_len, AllByRecursion}
use Rattle.aq_base.specs.Calendar.{hour_number}
use Rattle.aq_base.specs.declared.day.TheConstants.{LAST_HOUR}
use Rattle.aq_rules.specs.Ozone.EightHour.{WindowRow}
use Rattle.aq_rules.specs.Ozone.SiteHour.{Cell}
use Rattle.aq_series.specs.Samples.{IsOzone}

-- what it has for an hour, and none past the profile
abbrev pub within_profile : (ℕ → Option Cell) → ℕ → Option Cell
within_profile cell_at hour = if nat_le hour LAST_HOUR then cell_at hour else None

-- what it has for the hours of eight calendar days
unfoldable pub span_hours : (ℕ → Option Cell) → ℕ → List (Option Cell)
span_hours cell_at day = map (within_profile cell_at) (range_with_len (24 * day) 192)

-- a day's averages read its hours from 07:00 to 06:00 of the next day
unfoldable pub day_hours : (ℕ → Option Cell) → ℕ → List (Option Cell)
day_hours cell_at day = map (within_profile cell_at) (range_with_len (hour_number day 7) 24)

-- what it has for the hours of a calendar day
unfoldable pub calendar_hours : (ℕ → Option Cell) → ℕ → List (Option Cell)
calendar_hours cell_at day = map (within_profile cell_at) (range_with_len (24 * day) 24)

-- the cells of hours
abbrev pub cells_in : List (Option Cell) → List Cell
cells_in hours = filter_map (λ hour. hour) hours

-- their net averages are ozone's values
abbrev pub AreNetOzone : List WindowRow → Type 0
AreNetOzone rows = AllByRecursion (λ (row : WindowRow). IfSome row.net IsOzone) rows
