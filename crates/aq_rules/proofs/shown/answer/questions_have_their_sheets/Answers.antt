use Rattle.std.proofs.Common.{◌≡◌, ℕ, true, Some, [], ◌∷◌, refl}
use Rattle.std.specs.Prelude.{codes}
use Rattle.aq_base.specs.Site.{Site}
use Rattle.aq_base.specs.Standard.{standard_name}
use Rattle.aq_base.specs.declared.standard.Standard.{Standard}
use Rattle.aq_rules.specs.Office.Office.{Office}
use Rattle.aq_base.specs.declared.question.Question.TheVariants.{Value}
use Rattle.aq_rules.specs.Questions.Answer.{answer, is_registered}
use Rattle.aq_rules.specs.Shown.ShownExamples.{outline, value_columns}
use Rattle.aq_rules.specs.Shown.Sheet.SheetCell.{Text}
use Rattle.aq_base.specs.declared.standard.Standard.TheVariants.{Ozone2015, Annual2012, AnnualSecondary, Annual2024, Daily2006, Pm10Of1987}
use Rattle.aq_rules.specs.DesignValues.{design_value}
use Rattle.aq_rules.specs.Shown.Sheets.{load_sheet, windows_answer, windows_sheet, days_answer, days_sheet, ozone_value_sheet}
use Rattle.aq_rules.specs.Shown.ParticleSheets.{pm25_answer, pm25_sheet, pm10_answer, pm10_sheet, annual_value_sheet, daily_value_sheet, pm10_value_sheet}
use Rattle.aq_rules.specs.Shown.OtherSheets.{value_answer, value_sheet, report_answer, report_sheet, judged, sites_with}
use Rattle.std.specs.Fmt.{digits}
use Rattle.aq_base.specs.Calendar.{days_of_years, days_of_months, year_of, month_of}
use Rattle.aq_base.specs.Decimal.{last_digits}
use Rattle.aq_rules.specs.Lists.{ranked}
use Rattle.aq_rules.specs.Office.Designation.{primary_on}
use Rattle.aq_rules.specs.Office.Exclusion.{excluded}
use Rattle.aq_rules.specs.Office.Monitors.{is_eligible}
use Rattle.aq_rules.specs.Office.Schedule.{is_scheduled}
use Rattle.aq_rules.specs.Particles.ParticleDay.{eligible_pocs, monitor_day, site_day}
use Rattle.aq_rules.specs.Particles.QuarterCounts.{days_of_quarter, credits, quarter_counts, quarter_values, pm25_year}
use Rattle.aq_rules.specs.Particles.AnnualVerdict.{annual_design}
use Rattle.aq_rules.specs.Kept.Summaries.{pm25_summary}
use Rattle.aq_rules.specs.Shown.Sheet.{count_cell, text_of}
use Rattle.aq_base.specs.Text.{site_text}
use Rattle.aq_rules.proofs.shown.answer.questions_have_their_sheets.Goals as goal

asked_value : (office : Office) (standard : Standard) (site : Site) (year : ℕ) → is_registered office site ≡ true
    → outline (codes "standard" ∷ codes "site" ∷ codes "year" ∷ []) (answer office (Value standard site year))
    ≡ Some (Text (standard_name standard) ∷ Text (site_text site) ∷ count_cell year ∷ [], value_columns standard)
unfolding answer value_answer value_sheet design_value ozone_value_sheet annual_value_sheet daily_value_sheet pm10_value_sheet
asked_value office Ozone2015 site year at = rw at refl
asked_value office Annual2012 site year at = rw at refl
asked_value office AnnualSecondary site year at = rw at refl
asked_value office Annual2024 site year at = rw at refl
asked_value office Daily2006 site year at = rw at refl
asked_value office Pm10Of1987 site year at = rw at refl

pub returns : goal.returns
unfolding answer load_sheet windows_answer windows_sheet days_answer days_sheet pm25_answer pm25_sheet pm10_answer pm10_sheet value_answer value_sheet design_value ozone_value_sheet annual_value_sheet daily_value_sheet pm10_value_sheet report_answer report_sheet digits days_of_years days_of_months year_of month_of last_digits ranked primary_on excluded is_eligible is_scheduled eligible_pocs monitor_day site_day days_of_quarter credits quarter_counts quarter_values pm25_year pm25_summary text_of site_text annual_design judged sites_with
returns c = record {
  load = λ office number load at. rw at refl;
  windows = λ office site day at. rw at refl;
  days = λ office site year at. rw at refl;
  fine = λ office site year at. rw at refl;
  coarse = λ office site year at. rw at refl;
  value = asked_value;
  report = λ office standard year. refl;
  without = refl;
  of_sites = refl;
}
