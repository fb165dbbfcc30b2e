-- The percentile and the mean that are printed of a year are those of its lists of values.
use Rattle.std.proofs.Common.{◌≡◌, ℕ, ◌-◌, List, [], ◌∷◌, map, replicate, ap, ◌∙◌, Option, Some}
use Rattle.std.specs.Prelude.{ℤ, codes, slice_get}
use Rattle.aq_base.specs.Calendar.{quarter_number}
use Rattle.aq_base.specs.Site.{Site}
use Rattle.aq_base.specs.declared.standard.Standard.TheVariants.{Annual2012, AnnualSecondary, Annual2024, Daily2006}
use Rattle.aq_rules.specs.DesignValues.{design_value}
use Rattle.aq_rules.specs.Office.Office.{Office, IsOffice}
use Rattle.aq_rules.specs.Standards.{years_to}
use Rattle.aq_rules.specs.Particles.AnnualVerdict.{annual_design}
use Rattle.aq_rules.specs.Particles.DailyVerdict.{daily_design}
use Rattle.aq_rules.specs.Particles.Means.{mean_of_means, quarterly_mean}
use Rattle.aq_rules.specs.Particles.Percentile.{percentile}
use Rattle.aq_rules.specs.Particles.QuarterCounts.{QuarterDays, counted_in, pm25_year, values_in}
use Rattle.aq_rules.specs.Kept.Summaries.{pm25_summary}
use Rattle.aq_rules.specs.Kept.SummaryVerdicts.{kept_percentile, mean_of_sums}
use Rattle.aq_rules.specs.Shown.Sheet.{SheetCell, cell_at, tenths_cell}
use Rattle.aq_rules.specs.Shown.ParticleSheets.{annual_value_sheet, daily_value_sheet, pm25_answer, pm25_sheet}
use Rattle.aq_rules.specs.Shown.OtherSheets.{value_answer, value_sheet}
use Rattle.aq_rules.proofs.KeptDaily.{plain-same}
use Rattle.aq_rules.proofs.KeptSums.{mean_of-same, mean-plain, percentile-plain}
use Rattle.aq_rules.proofs.Pm25Range.{pm25_year-keeps}
use Rattle.aq_rules.proofs.Quarters.{quarter-holds}

module _ (office : Office) (site : Site) where
  abbrev listed_percentile : ℕ → Option ℤ
  listed_percentile year = percentile (values_in (pm25_year office site year)) (counted_in (pm25_year office site year))

  abbrev listed_mean : ℕ → Option ℤ
  listed_mean year = mean_of_means (map (λ (q : QuarterDays). quarterly_mean q.values) (pm25_year office site year))

  kept-percentile : (year : ℕ) → IsOffice office → kept_percentile (pm25_summary office site year) ≡ listed_percentile year
  unfolding pm25_summary
  kept-percentile year valid =
      plain-same (pm25_year office site year) (pm25_year-keeps office site year valid (λ part low. quarter-holds (quarter_number year part)))
      ∙ percentile-plain (pm25_year office site year)

  kept-mean : (year : ℕ) → mean_of_sums (pm25_summary office site year).quarters ≡ listed_mean year
  unfolding pm25_summary
  kept-mean year = mean_of-same (pm25_year office site year) ∙ mean-plain (pm25_year office site year)

  pub percentile-printed : (year : ℕ) → IsOffice office → cell_at (codes "percentile") (pm25_answer office site year) ≡ tenths_cell (listed_percentile year)
  unfolding pm25_answer pm25_sheet
  percentile-printed year valid = ap tenths_cell (kept-percentile year valid)

  pub mean-printed : (year : ℕ) → cell_at (codes "mean") (pm25_answer office site year) ≡ tenths_cell (listed_mean year)
  unfolding pm25_answer pm25_sheet
  mean-printed year = ap tenths_cell (kept-mean year)

  abbrev cells : (ℕ → Option ℤ) → ℕ → List (Option SheetCell)
  cells value year = map (λ y. Some (tenths_cell (value y))) (years_to year)

  pub percentiles-printed : (year : ℕ) → IsOffice office → map (λ row. slice_get row 1) (value_answer Daily2006 office site year).rows ≡ cells listed_percentile year
  unfolding value_answer value_sheet design_value daily_value_sheet daily_design
  percentiles-printed year valid =
      λ i. Some (tenths_cell (kept-percentile (year - 2) valid i)) ∷ Some (tenths_cell (kept-percentile (year - 1) valid i)) ∷ Some (tenths_cell (kept-percentile year valid i)) ∷ []

  pub means-printed : (year : ℕ) → map (λ standard. map (λ row. slice_get row 1) (value_answer standard office site year).rows) (Annual2012 ∷ AnnualSecondary ∷ Annual2024 ∷ [])
      ≡ replicate 3 (cells listed_mean year)
  unfolding value_answer value_sheet design_value annual_value_sheet annual_design
  means-printed year =
      λ i. printed i ∷ printed i ∷ printed i ∷ []
    where
      printed : map (λ y. Some (tenths_cell (mean_of_sums (pm25_summary office site y).quarters))) (years_to year) ≡ cells listed_mean year
      printed =
          λ i. Some (tenths_cell (kept-mean (year - 2) i)) ∷ Some (tenths_cell (kept-mean (year - 1) i)) ∷ Some (tenths_cell (kept-mean year i)) ∷ []
