-- The ozone cells of sites: hours, averages, days and years, each from the one before.
use Rattle.std.specs.Prelude.{◌≡◌, ◌≤◌, ◌+◌, ℕ, ◌&&◌, ◌||◌, Bool, nat_le, nat_lt, if◌then◌else◌, Option, None, List, map, filter_map, ℤ, IfSome, IsTrue, ◌<◌}
use Rattle.aq_base.specs.Calendar.{days_in_year, year_first, year_of}
use Rattle.aq_base.specs.Site.{Site}
use Rattle.aq_base.specs.declared.day.TheConstants.{FIRST_YEAR, LAST_HOUR, LAST_YEAR}
use Rattle.aq_base.specs.declared.office.OfficeRecord.{OfficeRecord}
use Rattle.aq_rules.specs.Office.Approval.{is_approved}
use Rattle.aq_rules.specs.Office.Monitors.{is_same_site}
use Rattle.aq_rules.specs.Office.Office.{Office}
use Rattle.aq_rules.specs.Office.Season.{is_in_season, season_of}
use Rattle.aq_rules.specs.Ozone.EightHour.{WindowRow, window_by}
use Rattle.aq_rules.specs.Ozone.OzoneDay.{OzoneDay, day_of_windows, ozone_day, starts_of}
use Rattle.aq_rules.specs.Ozone.OzoneYear.{OzoneYear, days_of, year_by}
use Rattle.aq_rules.specs.Ozone.SiteHour.{Cell}
use Rattle.aq_series.specs.Samples.{IsOzone}
use Rattle.aq_ozone_cells.specs.KeptDays.{average_at, averages_of, held_at, hour_at}
use Rattle.aq_ozone_cells.specs.YearTallies.{count_of, maximum_of, AreBags}
use Rattle.aq_ozone_cells.specs.declared.kept_days.DayCells.{DayCells}
use Rattle.aq_ozone_cells.specs.declared.kept_days.HeldDay.{HeldDay}
use Rattle.aq_ozone_cells.specs.declared.kept_days.KeptAverage.{KeptAverage}
use Rattle.aq_ozone_cells.specs.declared.site_key.SiteKey.{SiteKey}
use Rattle.aq_ozone_cells.specs.declared.year_tallies.YearTallies.{YearTallies}

-- what is kept of the days of sites
abbrev pub Cells : Type 0
Cells = List (SiteKey × DayCells)

-- what is kept of an hour, and none past the profile
abbrev pub hour_in_profile : Cells → Site → ℕ → Option Cell
hour_in_profile cells site hour = if nat_le hour LAST_HOUR then hour_at cells site hour else None

-- the average of the hours that are kept
unfoldable pub average_of_hours : Cells → Site → ℕ → KeptAverage
average_of_hours cells site start = averages_of (window_by (hour_at cells site) start)

-- a row with these averages; a day reads nothing else of it
abbrev pub row_with : KeptAverage → WindowRow
row_with average = record { net = average.net; net_hours = 0; full = average.full; full_hours = 0 }

-- the day of the averages that are kept
unfoldable pub day_of_averages : Cells → Site → ℕ → OzoneDay
day_of_averages cells site day = day_of_windows (map (λ start. row_with (average_at cells site start)) (starts_of day))

-- whether a day of the season is valid or approved
abbrev pub counts : List OfficeRecord → Site → ℕ → Bool → Bool
counts records site day valid = is_in_season (season_of records site (year_of day)) day && (valid || is_approved records site day)

-- what the day of the averages that are kept gives its year, by the season and the approvals of these records
unfoldable pub day_from : List OfficeRecord → Cells → Site → ℕ → HeldDay
day_from records cells site day = record {
  valid = (day_of_averages cells site day).valid;
  counted = counts records site day (day_of_averages cells site day).valid;
  maximum = (day_of_averages cells site day).maximum;
}

-- what a day of an office gives its year
unfoldable pub held_day : Office → Site → ℕ → HeldDay
held_day office site day = record {
  valid = (ozone_day office site day).valid;
  counted = counts office.records site day (ozone_day office site day).valid;
  maximum = (ozone_day office site day).maximum;
}

-- the day that a year holds, as a day of the book of rules, without the number of its averages
abbrev pub ozone_day_of : HeldDay → OzoneDay
ozone_day_of day = record { averages = 0; valid = day.valid; maximum = day.maximum }

-- the year of the days that are held, by the season and the approvals of these records
unfoldable pub year_of_days : List OfficeRecord → Cells → Site → ℕ → OzoneYear
year_of_days records cells site year =
    year_by (is_in_season (season_of records site year)) (λ day. (held_at cells site day).valid || is_approved records site day)
    (map (λ day. ozone_day_of (held_at cells site day)) (days_of year)) year

-- whether a number is one of so many from the first on, and a day one of a year
abbrev pub is_among : ℕ → ℕ → ℕ → Bool
is_among first count number = nat_le first number && nat_lt number (first + count)

abbrev pub is_day_of : ℕ → ℕ → Bool
is_day_of year day = is_among (year_first year) (days_in_year year) day

-- each day of the year is held with the season and the approvals of these records
unfoldable pub AreHeldBy : List OfficeRecord → Cells → Site → ℕ → Type 0
AreHeldBy records cells site year =
    (day : ℕ) → IsTrue (is_day_of year day) → (held_at cells site day).counted ≡ counts records site day (held_at cells site day).valid

-- so many days of a site from the first on give their years what the averages that are kept give them, by these records; all else is as before
pub record AreSettled (records : List OfficeRecord) (before after : Cells) (site : Site) (first count : ℕ) : Type 0 where
  pub days : (other : Site) (number : ℕ) → held_at after other number ≡ (if is_same_site site other && is_among first count number then day_from records before site number else held_at before other number)
  pub hours : (other : Site) (hour : ℕ) → hour_at after other hour ≡ hour_at before other hour
  pub averages : (other : Site) (start : ℕ) → average_at after other start ≡ average_at before other start

-- so many days of a site from the first on give their years that already
abbrev pub AreHeldAlready : List OfficeRecord → Cells → Site → ℕ → ℕ → Type 0
AreHeldAlready records cells site first count =
    (day : ℕ) → first ≤ day → day < first + count → held_at cells site day ≡ day_from records cells site day

-- ---- what always holds

-- what the days of a year give it
abbrev pub maxima_held : Cells → Site → ℕ → List ℤ
maxima_held cells site year = filter_map (λ day. maximum_of (held_at cells site day)) (days_of year)

abbrev pub counted_held : Cells → Site → ℕ → List ℤ
counted_held cells site year = filter_map (λ day. count_of (held_at cells site day)) (days_of year)

-- the values of hours, and the net averages, are ozone's
abbrev pub AreHoursOfOzone : Cells → Type 0
AreHoursOfOzone cells = (site : Site) (hour : ℕ) → IfSome (hour_at cells site hour) (λ (cell : Cell). IsOzone cell.value)

abbrev pub AreAveragesOfOzone : Cells → Type 0
AreAveragesOfOzone cells = (site : Site) (start : ℕ) → IfSome (average_at cells site start).net IsOzone

-- the tallies are those of the days that are held
unfoldable pub AreYears : Cells → YearTallies → Type 0
AreYears cells tallies =
    (site : Site) (year : ℕ) → FIRST_YEAR ≤ year → year ≤ LAST_YEAR
    → AreBags site year (maxima_held cells site year) (counted_held cells site year) tallies

pub record AreCells (cells : Cells) (tallies : YearTallies) : Type 0 where
  pub hours : AreHoursOfOzone cells
  pub averages : AreAveragesOfOzone cells
  pub years : AreYears cells tallies
