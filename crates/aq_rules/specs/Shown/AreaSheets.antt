-- The sheets of decisive events, and of an area and its sites, filled; and the value sheet with assumed concurrences (own).
use Rattle.std.specs.Prelude.{ℕ, ◌+◌, ◌-◌, List, [], ◌∷◌, drop, map, filter, codes, Option, Some, None, ℤ}
use Rattle.std.specs.List.{range_with_len, enumerate_from}
use Rattle.aq_base.specs.Areas.{area_holds}
use Rattle.aq_base.specs.Site.{Site}
use Rattle.aq_base.specs.Standard.{standard_name}
use Rattle.aq_base.specs.declared.area.Area.{Area}
use Rattle.aq_base.specs.declared.assumed.Assumed.{Assumed}
use Rattle.aq_base.specs.declared.assumed.DecisiveEvent.{DecisiveEvent}
use Rattle.aq_base.specs.declared.day.TheConstants.{FIRST_YEAR}
use Rattle.aq_base.specs.declared.standard.Standard.{Standard}
use Rattle.aq_base.specs.declared.standard.Standard.TheVariants.{Ozone2015, Annual2012, AnnualSecondary, Annual2024, Daily2006, Pm10Of1987}
use Rattle.aq_base.specs.declared.standard.Verdict.{Verdict}
use Rattle.aq_rules.specs.Standards.{pollutant_of}
use Rattle.aq_rules.specs.DesignValues.{design_value, value_in, verdict_in}
use Rattle.aq_rules.specs.Office.Office.{Office}
use Rattle.aq_rules.specs.WhatIf.Assumed.{what_if, decisive}
use Rattle.aq_rules.specs.Areas.AreaValue.{SiteValue, AreaYear, rows_of, area_year, first_not_met, met_at_end}
use Rattle.aq_rules.specs.Areas.CriticalValue.{critical}
use Rattle.aq_rules.specs.Shown.Sheet.{SheetCell, Sheet, head_of, count_cell, ppm_cell, tenths_cell, site_text}
use Rattle.aq_rules.specs.Shown.Sheet.SheetCell.{Text, Missing}
use Rattle.aq_rules.specs.Shown.Sheets.{design_cell, verdict_name}
use Rattle.aq_rules.specs.Shown.OtherSheets.{value_sheet, sites_with}

-- ---- as if

unfoldable pub what_if_answer : Standard → Office → List Assumed → Site → ℕ → Sheet
what_if_answer standard office list site year = value_sheet standard site year (what_if standard office list site year)

-- an event's number, and the verdict with it turned round
abbrev pub decisive_cells : ℕ × Verdict → List SheetCell
decisive_cells row = count_cell row.0 ∷ Text (verdict_name row.1) ∷ []

-- the verdict as it is, and the decisive events
unfoldable pub decisive_sheet : Standard → Site → ℕ → Verdict → List (ℕ × Verdict) → Sheet
decisive_sheet standard site year verdict rows = record {
  heads =
      head_of (codes "standard") (Text (standard_name standard))
      ∷ head_of (codes "site") (Text (site_text site))
      ∷ head_of (codes "year") (count_cell year)
      ∷ head_of (codes "verdict") (Text (verdict_name verdict))
      ∷ [];
  columns = codes "event" ∷ codes "verdict" ∷ [];
  rows = map decisive_cells rows;
}

abbrev pub decisive_row : DecisiveEvent → ℕ × Verdict
decisive_row event = (event.number, event.verdict)

unfoldable pub decisive_answer : Standard → Office → Site → ℕ → Sheet
decisive_answer standard office site year =
    decisive_sheet standard site year (verdict_in (design_value standard office site year)) (map decisive_row (decisive standard office site year))

-- ---- an area

abbrev pub site_cell : Option Site → SheetCell
site_cell None = Missing
site_cell (Some site) = Text (site_text site)

-- an end year, and the area's verdict and value then
abbrev pub area_cells : Standard → ℕ × Verdict × Option ℤ → List SheetCell
area_cells standard row = count_cell row.0 ∷ Text (verdict_name row.1) ∷ design_cell standard row.2 ∷ []

-- the area in the year: its verdict, its governing site with its value, and how many years it has met the standard
unfoldable pub area_sheet : Standard → ℕ → Verdict → Option Site → Option ℤ → ℕ → List (ℕ × Verdict × Option ℤ) → Sheet
area_sheet standard year verdict governing value met rows = record {
  heads =
      head_of (codes "standard") (Text (standard_name standard))
      ∷ head_of (codes "year") (count_cell year)
      ∷ head_of (codes "verdict") (Text (verdict_name verdict))
      ∷ head_of (codes "governing") (site_cell governing)
      ∷ head_of (codes "value") (design_cell standard value)
      ∷ head_of (codes "met") (count_cell met)
      ∷ [];
  columns = codes "year" ∷ codes "verdict" ∷ codes "value" ∷ [];
  rows = map (area_cells standard) rows;
}

-- a critical value as an annual mean, a percentile or a year's estimate has it: in ppm, or with tenths
abbrev pub critical_cell : Standard → Option ℤ → SheetCell
critical_cell Ozone2015 value = ppm_cell value
critical_cell Annual2012 value = tenths_cell value
critical_cell AnnualSecondary value = tenths_cell value
critical_cell Annual2024 value = tenths_cell value
critical_cell Daily2006 value = tenths_cell value
critical_cell Pm10Of1987 value = tenths_cell value

-- a site, its value and verdict, and its critical value
abbrev pub area_site_cells : Standard → Site × Option ℤ × Verdict × Option ℤ → List SheetCell
area_site_cells standard row =
    Text (site_text row.0) ∷ design_cell standard row.1 ∷ Text (verdict_name row.2) ∷ critical_cell standard row.3 ∷ []

unfoldable pub area_sites_sheet : Standard → ℕ → List (Site × Option ℤ × Verdict × Option ℤ) → Sheet
area_sites_sheet standard year rows = record {
  heads = head_of (codes "standard") (Text (standard_name standard)) ∷ head_of (codes "year") (count_cell year) ∷ [];
  columns = codes "site" ∷ codes "value" ∷ codes "verdict" ∷ codes "critical" ∷ [];
  rows = map (area_site_cells standard) rows;
}

-- ---- the sheets of an area of an office

-- the area's sites with a monitor of the standard's pollutant, in rising order; if there is none the area is not answered
unfoldable pub area_sites : Standard → Office → Area → List Site
area_sites standard office area = filter (area_holds area) (sites_with office (pollutant_of standard))

-- the design values of all sites with a monitor of the standard's pollutant
unfoldable pub site_values : Standard → Office → ℕ → List SiteValue
site_values standard office year = map (λ site. (site, design_value standard office site year)) (sites_with office (pollutant_of standard))

unfoldable pub area_in : Standard → Office → Area → ℕ → AreaYear
area_in standard office area year = area_year (site_values standard office year) area

-- the years of which there is a design value: the profile has the two years before, too
abbrev pub first_end_year : ℕ
first_end_year = FIRST_YEAR + 2

abbrev pub end_years : ℕ → List ℕ
end_years year = range_with_len first_end_year (year + 1 - first_end_year)

abbrev pub area_row : ℕ × AreaYear → ℕ × Verdict × Option ℤ
area_row row = (row.0, row.1.verdict, row.1.value)

-- the years from the first that is NotMet on; no year if none is
abbrev pub rows_from : Option ℕ → List AreaYear → List (ℕ × Verdict × Option ℤ)
rows_from None years = []
rows_from (Some place) years = drop place (map area_row (enumerate_from first_end_year years))

-- of all end years up to the year, and the year's own
abbrev pub sheet_of_years : Standard → ℕ → List AreaYear → AreaYear → Sheet
sheet_of_years standard year years now =
    area_sheet standard year now.verdict now.governing now.value (met_at_end years) (rows_from (first_not_met years) years)

unfoldable pub area_answer : Standard → Office → Area → ℕ → Sheet
area_answer standard office area year =
    sheet_of_years standard year (map (area_in standard office area) (end_years year)) (area_in standard office area year)

abbrev pub area_site_row : Standard → SiteValue → Site × Option ℤ × Verdict × Option ℤ
area_site_row standard row = (row.0, value_in row.1, verdict_in row.1, critical standard row.1)

unfoldable pub area_sites_answer : Standard → Office → Area → ℕ → Sheet
area_sites_answer standard office area year =
    area_sites_sheet standard year (map (area_site_row standard) (rows_of area (site_values standard office year)))
