-- What the days of a year give it, and what some of them give together.
use Rattle.std.specs.Prelude.{◌≡◌, ℕ, Bool, ◌&&◌, ◌||◌, Option, List, length, map, count_by, filter_map, ℤ}
use Rattle.std.specs.List.{AllByRecursion}
use Rattle.aq_rules.specs.Lists.{ranked}
use Rattle.aq_rules.specs.Office.Season.{Season, is_in_season}
use Rattle.aq_rules.specs.Ozone.EightHour.{window_by}
use Rattle.aq_rules.specs.Ozone.OzoneDay.{OzoneDay, day_of_windows, windows_by}
use Rattle.aq_rules.specs.Ozone.OzoneYear.{OzoneYear, days_of, ranked_maximum, year_by}
use Rattle.aq_rules.specs.Ozone.SiteHour.{Cell}
use Rattle.aq_series.specs.Samples.{IsOzone}
use Rattle.aq_ozone.specs.declared.ozone_year.DayOfYear.{DayOfYear}
use Rattle.aq_ozone.specs.declared.ozone_year.YearTally.{YearTally}
use Rattle.aq_ozone.specs.FourGreatest.{four_of}

-- a day of what has these hours
abbrev pub ozone_day_by : (ℕ → Option Cell) → ℕ → OzoneDay
ozone_day_by cell_at day = day_of_windows (windows_by (window_by cell_at) day)

-- whether a day counts as valid, by its hours or by approval
abbrev pub counts_by : (ℕ → Option Cell) → (ℕ → Bool) → ℕ → Bool
counts_by cell_at approves day = (ozone_day_by cell_at day).valid || approves day

-- a year of what has these hours, approved days and season
unfoldable pub ozone_year_by : (ℕ → Option Cell) → (ℕ → Bool) → Season → ℕ → OzoneYear
ozone_year_by cell_at approves season year =
    year_by (is_in_season season) (counts_by cell_at approves) (map (ozone_day_by cell_at) (days_of year)) year

-- a day of such a year
abbrev pub day_in : (ℕ → Option Cell) → (ℕ → Bool) → Season → ℕ → DayOfYear
day_in cell_at approves season day = record {
  in_season = is_in_season season day;
  counted = is_in_season season day && counts_by cell_at approves day;
  maximum = ranked_maximum (ozone_day_by cell_at day);
}

-- the maxima of days
abbrev pub maxima_of : List DayOfYear → List ℤ
maxima_of days = filter_map (λ (day : DayOfYear). day.maximum) days

-- the tally of days
pub record IsTallyOf (days : List DayOfYear) (tally : YearTally) : Type 0 where
  pub season_days : tally.season_days ≡ count_by (λ (day : DayOfYear). day.in_season) days
  pub season_valid : tally.season_valid ≡ count_by (λ (day : DayOfYear). day.counted) days
  pub ranked_maxima : tally.ranked ≡ length (maxima_of days)
  pub ozone : AllByRecursion (λ (value : ℤ). IsOzone value) (maxima_of days)
  pub top : tally.top ≡ four_of (ranked (maxima_of days))
