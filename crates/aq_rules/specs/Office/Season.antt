-- The ozone monitoring season of a site and year (40 CFR Part 50, Appendix U, 4(b)): the season on record, else the whole year (own).
use Rattle.std.specs.Prelude.{ℕ, ◌+◌, ◌-◌, Bool, ◌&&◌, ◌==◌, nat_le, if◌then◌else◌, List, filter_map, slice_get, Option, Some, None, unwrap_or}
use Rattle.aq_base.specs.Calendar.{year_first, days_in_year}
use Rattle.aq_base.specs.Site.{Site}
use Rattle.aq_base.specs.declared.office.OfficeRecord.{OfficeRecord}
use Rattle.aq_base.specs.declared.office.OfficeRecord.TheVariants.{Season as SeasonRecord}
use Rattle.aq_rules.specs.Office.Monitors.{is_same_site}

-- the first and the last day
pub record Season : Type 0 where
  pub first : ℕ
  pub last : ℕ

abbrev pub season_by : Site → ℕ → OfficeRecord → Option Season
season_by site year (SeasonRecord other_site other_year first last) =
    if is_same_site other_site site && (other_year == year) then Some (record { first = first; last = last }) else None
season_by site year _ = None

abbrev pub whole_year : ℕ → Season
whole_year year = record { first = year_first year; last = year_first year + days_in_year year - 1 }

unfoldable pub season_of : List OfficeRecord → Site → ℕ → Season
season_of records site year = unwrap_or (slice_get (filter_map (season_by site year) records) 0) (whole_year year)

abbrev pub is_in_season : Season → ℕ → Bool
is_in_season season day = nat_le season.first day && nat_le day season.last
