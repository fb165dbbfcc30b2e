use Rattle.std.proofs.Common.{refl}
use Rattle.std.specs.Fmt.{digits}
use Rattle.aq_base.specs.Calendar.{days_of_years, days_of_months, year_of, month_of}
use Rattle.aq_base.specs.Decimal.{last_digits}
use Rattle.aq_rules.specs.DesignValues.{design_value}
use Rattle.aq_rules.specs.Lists.{ranked}
use Rattle.aq_rules.specs.Office.Designation.{primary_on}
use Rattle.aq_rules.specs.Office.Exclusion.{excluded}
use Rattle.aq_rules.specs.Office.Monitors.{is_eligible}
use Rattle.aq_rules.specs.Office.Schedule.{is_scheduled}
use Rattle.aq_rules.specs.Particles.ParticleDay.{eligible_pocs, monitor_day, site_day}
use Rattle.aq_rules.specs.Particles.QuarterCounts.{days_of_quarter, credits, quarter_counts, quarter_values, pm25_year}
use Rattle.aq_rules.specs.Particles.AnnualVerdict.{annual_design}
use Rattle.aq_rules.specs.Kept.Summaries.{pm25_summary}
use Rattle.aq_rules.specs.Questions.Answer.{answer}
use Rattle.aq_rules.specs.Shown.OtherSheets.{judged, report_answer, report_sheet, sites_with}
use Rattle.aq_rules.specs.Shown.Sheet.{text_of}
use Rattle.aq_base.specs.Text.{site_text}
use Rattle.aq_rules.proofs.shown.answer.reports_judge_at_the_level_of_their_standard.Goals as goal

pub returns : goal.returns
unfolding digits days_of_years days_of_months year_of month_of last_digits ranked primary_on excluded is_eligible is_scheduled eligible_pocs monitor_day site_day days_of_quarter credits quarter_counts quarter_values pm25_year pm25_summary text_of site_text answer design_value annual_design judged report_answer report_sheet sites_with
returns c = refl
