-- The days of a year of a site and pollutant: of ozone its days sheet, of the particles each day's sample and what it counts for (40 CFR Part 50, Appendices N and K; the columns are (own)).
use Rattle.std.specs.Prelude.{ℕ, Bool, ◌==◌, nat_le, if◌then◌else◌, List, [], ◌∷◌, length, map, filter, filter_map, codes, Option, Some, None, option_map, ℤ}
use Rattle.std.specs.List.{list_any}
use Rattle.aq_base.specs.Calendar.{quarter_of}
use Rattle.aq_base.specs.Site.{Site}
use Rattle.aq_base.specs.declared.monitor.Pollutant.{Pollutant}
use Rattle.aq_base.specs.declared.monitor.Pollutant.TheVariants.{Ozone, Pm25, Pm10}
use Rattle.aq_base.specs.declared.office.OfficeRecord.{OfficeRecord}
use Rattle.aq_base.specs.declared.office.OfficeRecord.TheVariants.{Makeup as MakeupRecord}
use Rattle.aq_rules.specs.Lines.Canonical.{parameter_text}
use Rattle.aq_rules.specs.Office.Office.{Office}
use Rattle.aq_rules.specs.Office.Monitors.{is_same_site}
use Rattle.aq_rules.specs.Office.Schedule.{is_scheduled}
use Rattle.aq_rules.specs.Ozone.OzoneYear.{days_of}
use Rattle.aq_rules.specs.Ozone.SiteHour.{Cell}
use Rattle.aq_rules.specs.Particles.ParticleDay.{site_day}
use Rattle.aq_rules.specs.Particles.Pm10Estimate.{exceeds}
use Rattle.aq_rules.specs.Particles.QuarterCounts.{Makeup, gives_credit}
use Rattle.aq_rules.specs.Particles.Strata.{first_days}
use Rattle.aq_rules.specs.Listed.Events.{truth_cell}
use Rattle.aq_rules.specs.Shown.Sheet.{SheetCell, Head, Sheet, head_of, count_cell, tenths_cell, site_text, day_text, truth_text}
use Rattle.aq_rules.specs.Shown.Sheet.SheetCell.{Text}
use Rattle.aq_rules.specs.Shown.Sheets.{days_answer}

abbrev pub value_of : Option Cell → Option ℤ
value_of sample = option_map (λ (c : Cell). c.value) sample

-- whether the day is excluded, if it has a value
abbrev pub exclusion_of : Option Cell → Option Bool
exclusion_of sample = option_map (λ (c : Cell). c.excluded) sample

abbrev pub series_heads : Site → Pollutant → ℕ → List Head
series_heads site pollutant year =
    head_of (codes "site") (Text (site_text site))
    ∷ head_of (codes "parameter") (Text (parameter_text pollutant))
    ∷ head_of (codes "year") (count_cell year)
    ∷ []

-- ---- PM2.5

-- the make-up that a record of the site makes
abbrev pub makeup_of_site : Site → OfficeRecord → Option Makeup
makeup_of_site site (MakeupRecord other missed makeup) =
    if is_same_site other site then Some (record { missed = missed; makeup = makeup }) else None
makeup_of_site site _ = None

-- whether the day is the make-up day of a record that gives credit (Appendix N, 1.0(c))
unfoldable pub is_credited : Office → Site → ℕ → Bool
is_credited office site day =
    list_any (λ (m : Makeup). m.makeup == day) (filter (gives_credit office site) (filter_map (makeup_of_site site) office.records))

-- a day, whether a sample is asked for, the site's value with whether it is excluded, and whether it makes up for a missed day
pub record Pm25Day : Type 0 where
  pub day : ℕ
  pub scheduled : Bool
  pub sample : Option Cell
  pub credit : Bool

abbrev pub pm25_day : Office → Site → ℕ → Pm25Day
pm25_day office site day = record {
  day = day;
  scheduled = is_scheduled office.records site Pm25 day;
  sample = site_day office site Pm25 day;
  credit = is_credited office site day;
}

abbrev pub pm25_day_cells : Pm25Day → List SheetCell
pm25_day_cells row =
    Text (day_text row.day) ∷ Text (truth_text row.scheduled) ∷ tenths_cell (value_of row.sample)
    ∷ truth_cell (exclusion_of row.sample) ∷ Text (truth_text row.credit) ∷ []

unfoldable pub pm25_days_sheet : Site → ℕ → List Pm25Day → Sheet
pm25_days_sheet site year rows = record {
  heads = series_heads site Pm25 year;
  columns = codes "day" ∷ codes "scheduled" ∷ codes "value" ∷ codes "excluded" ∷ codes "credit" ∷ [];
  rows = map pm25_day_cells rows;
}

-- ---- PM10

-- the place, from 1 in each quarter, of the stratum that holds the day (Appendix K, 3.2)
unfoldable pub stratum_place : Office → Site → ℕ → ℕ
stratum_place office site day = length (filter (λ first. nat_le first day) (first_days office site (quarter_of day)))

-- a day, whether a sample is asked for, the place of its stratum, and the site's value with whether it is excluded
pub record Pm10Day : Type 0 where
  pub day : ℕ
  pub scheduled : Bool
  pub stratum : ℕ
  pub sample : Option Cell

abbrev pub pm10_day : Office → Site → ℕ → Pm10Day
pm10_day office site day = record {
  day = day;
  scheduled = is_scheduled office.records site Pm10 day;
  stratum = stratum_place office site day;
  sample = site_day office site Pm10 day;
}

-- whether the value exceeds by itself, excluded or not
abbrev pub pm10_day_cells : Pm10Day → List SheetCell
pm10_day_cells row =
    Text (day_text row.day) ∷ Text (truth_text row.scheduled) ∷ count_cell row.stratum ∷ tenths_cell (value_of row.sample)
    ∷ truth_cell (exclusion_of row.sample) ∷ truth_cell (option_map exceeds (value_of row.sample)) ∷ []

unfoldable pub pm10_days_sheet : Site → ℕ → List Pm10Day → Sheet
pm10_days_sheet site year rows = record {
  heads = series_heads site Pm10 year;
  columns = codes "day" ∷ codes "scheduled" ∷ codes "stratum" ∷ codes "value" ∷ codes "excluded" ∷ codes "exceeds" ∷ [];
  rows = map pm10_day_cells rows;
}

-- ---- a year

unfoldable pub daily_answer : Office → Site → Pollutant → ℕ → Sheet
daily_answer office site Ozone year = days_answer office site year
daily_answer office site Pm25 year = pm25_days_sheet site year (map (pm25_day office site) (days_of year))
daily_answer office site Pm10 year = pm10_days_sheet site year (map (pm10_day office site) (days_of year))
