-- A day that is filled from hours that follow one another, and an office that is kept.
use Rattle.std.specs.Prelude.{◌≡◌, ◌≤◌, ℕ, ◌/◌, ◌%◌, if◌then◌else◌, IsTrue, Option, None, List, take, drop}
use Rattle.aq_base.specs.Site.{Site}
use Rattle.aq_base.specs.declared.day.TheConstants.{LAST_DAY}
use Rattle.aq_rules.specs.Office.Office.{Office}
use Rattle.aq_rules.specs.Ozone.EightHour.{row_of, window}
use Rattle.aq_rules.specs.Ozone.SiteHour.{Cell, site_hour}
use Rattle.aq_ozone.specs.DayHours.{cells_in}
use Rattle.aq_ozone_cells.specs.KeptDays.{average_at, averages_of, held_at, hour_at, is_kept_start, no_average, no_day}
use Rattle.aq_ozone_cells.specs.OzoneCells.{held_day, Cells}
use Rattle.aq_ozone_cells.specs.declared.kept_days.KeptAverage.{KeptAverage}

-- the average of the eight hours from a place on
abbrev pub average_among : List (Option Cell) → ℕ → KeptAverage
average_among hours place = averages_of (row_of (cells_in (take 8 (drop place hours))))

-- the average that starts at an hour of the day whose hours these are, none before 07:00
abbrev pub day_average : List (Option Cell) → ℕ → KeptAverage
day_average hours start = if is_kept_start start then average_among hours (start % 24) else no_average

-- the hours of a day, the averages that start in it, and what it gives its year are those of the office
pub record IsDayOf (office : Office) (cells : Cells) (site : Site) (day : ℕ) : Type 0 where
  pub hours : (hour : ℕ) → hour / 24 ≡ day → hour_at cells site hour ≡ site_hour office site hour
  pub averages : (start : ℕ) → start / 24 ≡ day → IsTrue (is_kept_start start) → average_at cells site start ≡ averages_of (window office site start)
  pub held : held_at cells site day ≡ held_day office site day

-- all that is kept is the office's
unfoldable pub AreKept : Office → Cells → Type 0
AreKept office cells = (site : Site) (day : ℕ) → day ≤ LAST_DAY → IsDayOf office cells site day

-- nothing is kept of a day
pub record IsEmptyDay (cells : Cells) (site : Site) (day : ℕ) : Type 0 where
  pub hours : (hour : ℕ) → hour / 24 ≡ day → hour_at cells site hour ≡ None
  pub averages : (start : ℕ) → start / 24 ≡ day → average_at cells site start ≡ no_average
  pub held : held_at cells site day ≡ no_day

-- a day is kept as before
pub record IsSameDay (before after : Cells) (site : Site) (day : ℕ) : Type 0 where
  pub hours : (hour : ℕ) → hour / 24 ≡ day → hour_at after site hour ≡ hour_at before site hour
  pub averages : (start : ℕ) → start / 24 ≡ day → average_at after site start ≡ average_at before site start
  pub held : held_at after site day ≡ held_at before site day
