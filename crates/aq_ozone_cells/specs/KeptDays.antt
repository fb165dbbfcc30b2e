-- What is kept of the days of sites: the values of their hours, their averages, and what each day gives its year.
use Rattle.std.specs.BTreeMap.{is_at}
use Rattle.std.specs.Map.{lookup}
use Rattle.std.specs.Prelude.{ℕ, ◌/◌, ◌%◌, ◌-◌, ◌==◌, Bool, false, nat_le, if◌then◌else◌, List, replicate, get_or, Option, None, option_map, unwrap_or}
use Rattle.aq_base.specs.Site.{Site}
use Rattle.aq_base.specs.declared.day.TheConstants.{LAST_HOUR}
use Rattle.aq_rules.specs.Ozone.EightHour.{WindowRow}
use Rattle.aq_rules.specs.Ozone.SiteHour.{Cell}
use Rattle.aq_ozone_cells.specs.declared.kept_days.DayCells.{DayCells}
use Rattle.aq_ozone_cells.specs.declared.kept_days.HeldDay.{HeldDay}
use Rattle.aq_ozone_cells.specs.declared.kept_days.KeptAverage.{KeptAverage}
use Rattle.aq_ozone_cells.specs.declared.kept_days.KeptHour.{KeptHour}
use Rattle.aq_ozone_cells.specs.SiteKeys.{key_cmp, site_key}
use Rattle.aq_ozone_cells.specs.declared.site_key.SiteKey.{SiteKey}

-- ---- a day

-- the value of an hour that is kept, and the other way round
abbrev pub cell_of : KeptHour → Cell
cell_of kept = record { value = kept.value; excluded = kept.excluded }

abbrev pub kept_of : Cell → KeptHour
kept_of cell = record { value = cell.value; excluded = cell.excluded }

-- no average
abbrev pub no_average : KeptAverage
no_average = record { net = None; full = None }

-- the two averages of a row
abbrev pub averages_of : WindowRow → KeptAverage
averages_of row = record { net = row.net; full = row.full }

-- a day of which nothing is kept: it is neither valid nor counted
abbrev pub no_day : HeldDay
no_day = record { valid = false; counted = false; maximum = None }

abbrev pub empty_day : DayCells
empty_day = record { hours = replicate 24 None; averages = replicate 17 no_average; held = no_day }

-- what a day has for one of its hours
abbrev pub hour_in : DayCells → ℕ → Option Cell
hour_in day hour = option_map cell_of (get_or day.hours (hour % 24) None)

-- what a day and the one after it have for an hour of theirs, by its number: none past the profile
abbrev pub hour_of_two : DayCells → DayCells → ℕ → ℕ → Option Cell
hour_of_two today tomorrow day hour =
    if nat_le hour LAST_HOUR then hour_in (if hour / 24 == day then today else tomorrow) hour else None

-- a day's averages are those that start at 07:00 to 23:00
abbrev pub is_kept_start : ℕ → Bool
is_kept_start start = nat_le 7 (start % 24)

-- what it has for the average that starts at one of its hours
abbrev pub average_in : DayCells → ℕ → KeptAverage
average_in day start = if is_kept_start start then get_or day.averages (start % 24 - 7) no_average else no_average

-- ---- days of sites

-- what is kept of a day
abbrev pub day_at : List (SiteKey × DayCells) → Site → ℕ → DayCells
day_at days site day = unwrap_or (lookup (is_at (key_cmp (site_key site day))) days) empty_day

-- the value of an hour, the average that starts at an hour, and what a day gives its year
unfoldable pub hour_at : List (SiteKey × DayCells) → Site → ℕ → Option Cell
hour_at days site hour = hour_in (day_at days site (hour / 24)) hour

unfoldable pub average_at : List (SiteKey × DayCells) → Site → ℕ → KeptAverage
average_at days site start = average_in (day_at days site (start / 24)) start

unfoldable pub held_at : List (SiteKey × DayCells) → Site → ℕ → HeldDay
held_at days site day = (day_at days site day).held
