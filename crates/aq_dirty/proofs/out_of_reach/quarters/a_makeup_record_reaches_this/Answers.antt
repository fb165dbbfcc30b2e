use Rattle.std.proofs.Common.{refl}
use Rattle.aq_base.specs.Calendar.{year_of, days_of_years, month_of, days_of_months}
use Rattle.aq_rules.specs.Kept.Reach.{reach, changed_rows, each_once, cells_reading}
use Rattle.aq_rules.specs.Office.Designation.{primary_on}
use Rattle.aq_rules.specs.Office.Exclusion.{excluded}
use Rattle.aq_rules.specs.Office.Monitors.{is_eligible}
use Rattle.aq_rules.specs.Office.Schedule.{is_scheduled}
use Rattle.aq_rules.specs.Particles.ParticleDay.{eligible_pocs, monitor_day, site_day}
use Rattle.aq_rules.specs.Particles.Pm10Estimate.{pm10_quarter}
use Rattle.aq_rules.specs.Particles.QuarterCounts.{days_of_quarter, credits, quarter_counts}
use Rattle.aq_rules.specs.Particles.Strata.{first_days_after, first_days, strata_of}
use Rattle.aq_rules.proofs.ValidOffice.{valid-is_office}
use Rattle.aq_dirty.specs.OutOfReach.Examples.{scheduled, made_up}
use Rattle.aq_dirty.proofs.out_of_reach.quarters.a_makeup_record_reaches_this.Goals as goal

pub returns : goal.returns
unfolding reach changed_rows each_once cells_reading year_of days_of_years month_of days_of_months primary_on excluded is_eligible is_scheduled eligible_pocs monitor_day site_day pm10_quarter days_of_quarter credits quarter_counts first_days_after first_days strata_of
returns c = record {
  valid_before = valid-is_office scheduled refl;
  valid_after = valid-is_office made_up refl;
  quarters = refl;
  of_pm10 = refl;
  year = refl;
  year_before = refl;
  year_of_pm10 = refl;
  counts = refl;
  new_counts = refl;
  samples_of_pm10 = refl;
  same_samples_of_pm10 = refl;
}
