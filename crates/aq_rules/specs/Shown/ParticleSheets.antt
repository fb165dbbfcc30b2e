-- The sheets of PM2.5 and PM10 quarters and design values, filled (own).
use Rattle.std.specs.Prelude.{ℕ, ◌-◌, ◌==◌, if◌then◌else◌, Bool, List, [], ◌∷◌, ◌++◌, map, zip, codes, None}
use Rattle.std.specs.List.{enumerate_from}
use Rattle.aq_base.specs.Site.{Site}
use Rattle.aq_base.specs.declared.standard.Standard.{Standard}
use Rattle.aq_base.specs.declared.standard.Standard.TheVariants.{Daily2006, Pm10Of1987}
use Rattle.aq_rules.specs.Office.Office.{Office}
use Rattle.aq_rules.specs.Particles.QuarterCounts.{capture}
use Rattle.aq_rules.specs.Particles.Percentile.{rank_of}
use Rattle.aq_rules.specs.Particles.AnnualVerdict.{ParticleDv}
use Rattle.aq_rules.specs.Particles.Pm10Estimate.{Pm10Quarter, pm10_year, quarter_estimate, quarter_lower, year_of_quarters}
use Rattle.aq_rules.specs.Particles.Pm10Verdict.{Pm10Dv, is_complete_year, exceedances_in}
use Rattle.aq_rules.specs.Kept.Summaries.{PmQuarter, PmYear, counts_of, pm25_summary}
use Rattle.aq_rules.specs.Kept.SummaryVerdicts.{mean_of_sums, kept_percentile, kept_counted}
use Rattle.aq_rules.specs.Shown.Sheet.{SheetCell, Sheet, head_of, count_cell, fixed_cell, tenths_cell, site_text, truth_text}
use Rattle.aq_rules.specs.Shown.Sheet.SheetCell.{Fixed, Text, Missing}
use Rattle.aq_rules.specs.Shown.Sheets.{value_heads}

-- ---- quarters

abbrev pub pm25_cells : ℕ × PmQuarter → List SheetCell
pm25_cells row =
    count_cell row.0 ∷ count_cell row.1.scheduled ∷ count_cell row.1.creditable ∷ count_cell (capture (counts_of row.1))
    ∷ count_cell row.1.counted ∷ count_cell row.1.net_days ∷ Fixed row.1.sum 1 ∷ tenths_cell row.1.least ∷ tenths_cell row.1.greatest
    ∷ []

-- without a counted sample there is no rank
abbrev pub rank_cell : ℕ → SheetCell
rank_cell counted = if counted == 0 then Missing else count_cell (rank_of counted)

unfoldable pub pm25_sheet : Site → ℕ → PmYear → Sheet
pm25_sheet site year parts = record {
  heads =
      head_of (codes "site") (Text (site_text site))
      ∷ head_of (codes "year") (count_cell year)
      ∷ head_of (codes "counted") (count_cell (kept_counted parts.quarters))
      ∷ head_of (codes "rank") (rank_cell (kept_counted parts.quarters))
      ∷ head_of (codes "percentile") (tenths_cell (kept_percentile parts))
      ∷ head_of (codes "mean") (tenths_cell (mean_of_sums parts.quarters))
      ∷ [];
  columns =
      codes "quarter" ∷ codes "scheduled" ∷ codes "creditable" ∷ codes "capture" ∷ codes "counted"
      ∷ codes "days" ∷ codes "sum" ∷ codes "least" ∷ codes "greatest" ∷ [];
  rows = map pm25_cells (enumerate_from 1 parts.quarters);
}

unfoldable pub pm25_answer : Office → Site → ℕ → Sheet
pm25_answer office site year = pm25_sheet site year (pm25_summary office site year)

-- `strata` counts those with a sample
abbrev pub pm10_cells : ℕ × Pm10Quarter → List SheetCell
pm10_cells row =
    count_cell row.0 ∷ count_cell row.1.calendar_days ∷ count_cell row.1.scheduled ∷ count_cell row.1.captured
    ∷ count_cell row.1.strata ∷ count_cell row.1.samples ∷ count_cell row.1.exceedances
    ∷ fixed_cell 2 (quarter_estimate row.1) ∷ fixed_cell 2 (quarter_lower row.1)
    ∷ []

unfoldable pub pm10_sheet : Site → ℕ → List Pm10Quarter → Sheet
pm10_sheet site year quarters = record {
  heads =
      head_of (codes "site") (Text (site_text site))
      ∷ head_of (codes "year") (count_cell year)
      ∷ head_of (codes "estimate") (tenths_cell (year_of_quarters quarter_estimate quarters))
      ∷ [];
  columns =
      codes "quarter" ∷ codes "days" ∷ codes "scheduled" ∷ codes "captured" ∷ codes "strata"
      ∷ codes "samples" ∷ codes "exceedances" ∷ codes "estimate" ∷ codes "lower" ∷ [];
  rows = map pm10_cells (enumerate_from 1 quarters);
}

unfoldable pub pm10_answer : Office → Site → ℕ → Sheet
pm10_answer office site year = pm10_sheet site year (pm10_year office site year)

-- ---- design values: three years, the oldest first, of which the last is `year`

abbrev pub capture_cells : PmYear → List SheetCell
capture_cells year = map (λ q. count_cell (capture (counts_of q))) year.quarters

abbrev pub capture_columns : List (List ℕ)
capture_columns = codes "capture1" ∷ codes "capture2" ∷ codes "capture3" ∷ codes "capture4" ∷ codes "valid" ∷ []

-- a year, its number, and whether it is valid
abbrev pub annual_cells : ℕ × (PmYear × Bool) → List SheetCell
annual_cells row =
    count_cell row.0 ∷ tenths_cell (mean_of_sums row.1.0.quarters) ∷ capture_cells row.1.0 ++ Text (truth_text row.1.1) ∷ []

unfoldable pub annual_value_sheet : Standard → Site → ℕ → List PmYear → ParticleDv → Sheet
annual_value_sheet standard site year years design = record {
  heads = value_heads standard site year design.value design.test design.verdict;
  columns = codes "year" ∷ codes "mean" ∷ capture_columns;
  rows = map annual_cells (enumerate_from (year - 2) (zip years design.valid));
}

abbrev pub daily_cells : ℕ × (PmYear × Bool) → List SheetCell
daily_cells row =
    count_cell row.0 ∷ tenths_cell (kept_percentile row.1.0) ∷ count_cell (kept_counted row.1.0.quarters)
    ∷ capture_cells row.1.0 ++ Text (truth_text row.1.1) ∷ []

unfoldable pub daily_value_sheet : Site → ℕ → List PmYear → ParticleDv → Sheet
daily_value_sheet site year years design = record {
  heads = value_heads Daily2006 site year design.value design.test design.verdict;
  columns = codes "year" ∷ codes "percentile" ∷ codes "counted" ∷ capture_columns;
  rows = map daily_cells (enumerate_from (year - 2) (zip years design.valid));
}

abbrev pub pm10_year_cells : ℕ × List Pm10Quarter → List SheetCell
pm10_year_cells row =
    count_cell row.0 ∷ tenths_cell (year_of_quarters quarter_estimate row.1) ∷ tenths_cell (year_of_quarters quarter_lower row.1)
    ∷ count_cell (exceedances_in row.1) ∷ Text (truth_text (is_complete_year row.1))
    ∷ []

-- there is no test
unfoldable pub pm10_value_sheet : Site → ℕ → List (List Pm10Quarter) → Pm10Dv → Sheet
pm10_value_sheet site year years design = record {
  heads = value_heads Pm10Of1987 site year design.value None design.verdict;
  columns = codes "year" ∷ codes "estimate" ∷ codes "lower" ∷ codes "exceedances" ∷ codes "complete" ∷ [];
  rows = map pm10_year_cells (enumerate_from (year - 2) years);
}
