-- The fourth-highest daily maximum of a site and year, and the days of its season (40 CFR Part 50, Appendix U, 3(e) and 4(b)).
use Rattle.std.specs.Prelude.{ℕ, Bool, ◌&&◌, ◌||◌, if◌then◌else◌, List, length, map, filter_map, count_by, slice_get, Option, None, ℤ}
use Rattle.std.specs.List.{range_with_len}
use Rattle.aq_base.specs.Calendar.{year_first, days_in_year}
use Rattle.aq_base.specs.Site.{Site}
use Rattle.aq_rules.specs.Office.Office.{Office}
use Rattle.aq_rules.specs.Lists.{ranked}
use Rattle.aq_rules.specs.Office.Season.{season_of, is_in_season}
use Rattle.aq_rules.specs.Office.Approval.{is_approved}
use Rattle.aq_rules.specs.Ozone.OzoneDay.{OzoneDay, ozone_day}

unfoldable pub days_of : ℕ → List ℕ
days_of year = range_with_len (year_first year) (days_in_year year)

unfoldable pub ozone_days : Office → Site → ℕ → List OzoneDay
ozone_days office site year = map (ozone_day office site) (days_of year)

-- a valid day's maximum is ranked, in season or not (own wording of 40 CFR Part 50, Appendix U, 3(c)). A valid day without a maximum is not ranked
abbrev pub ranked_maximum : OzoneDay → Option ℤ
ranked_maximum day = if day.valid then day.maximum else None

abbrev pub ranked_maxima : List OzoneDay → List ℤ
ranked_maxima days = ranked (filter_map ranked_maximum days)

-- the fourth of the ranked values, equal ones counted each, or none with fewer than four
abbrev pub fourth_of : List ℤ → Option ℤ
fourth_of values = slice_get values 3

-- the days of the season, how many of them are valid or approved, how many maxima are ranked, and the fourth highest
pub record OzoneYear : Type 0 where
  pub season_days : ℕ
  pub season_valid : ℕ
  pub ranked : ℕ
  pub fourth : Option ℤ

abbrev pub is_season_day : Office → Site → ℕ → ℕ → Bool
is_season_day office site year day = is_in_season (season_of office.records site year) day

abbrev pub counts_as_valid : Office → Site → ℕ → Bool
counts_as_valid office site day = (ozone_day office site day).valid || is_approved office.records site day

-- of the days of a year: which are of the season, which count as valid, and what all of them have
abbrev pub year_by : (ℕ → Bool) → (ℕ → Bool) → List OzoneDay → ℕ → OzoneYear
year_by is_season counts days year = record {
  season_days = count_by is_season (days_of year);
  season_valid = count_by (λ day. is_season day && counts day) (days_of year);
  ranked = length (ranked_maxima days);
  fourth = fourth_of (ranked_maxima days);
}

unfoldable pub ozone_year : Office → Site → ℕ → OzoneYear
ozone_year office site year =
    year_by (is_season_day office site year) (counts_as_valid office site) (ozone_days office site year) year
