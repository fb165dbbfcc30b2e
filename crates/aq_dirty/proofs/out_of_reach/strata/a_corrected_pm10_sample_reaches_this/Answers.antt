use Rattle.std.proofs.Common.{refl}
use Rattle.aq_base.specs.Calendar.{year_of, days_of_years, month_of, days_of_months}
use Rattle.aq_rules.specs.Kept.Reach.{reach, changed_rows, each_once, cells_reading}
use Rattle.aq_rules.specs.Office.Designation.{primary_on}
use Rattle.aq_rules.specs.Office.Exclusion.{excluded}
use Rattle.aq_rules.specs.Office.Monitors.{is_eligible}
use Rattle.aq_rules.specs.Office.Schedule.{is_scheduled}
use Rattle.aq_rules.specs.Particles.ParticleDay.{eligible_pocs, monitor_day, site_day}
use Rattle.aq_rules.specs.Particles.QuarterCounts.{days_of_quarter}
use Rattle.aq_rules.specs.Particles.Strata.{first_days_after, first_days, strata_of}
use Rattle.aq_rules.proofs.ValidOffice.{valid-is_office}
use Rattle.aq_dirty.specs.OutOfReach.Examples.{every_sixth, corrected_pm10}
use Rattle.aq_dirty.proofs.out_of_reach.strata.a_corrected_pm10_sample_reaches_this.Goals as goal

pub returns : goal.returns
unfolding reach changed_rows each_once cells_reading year_of days_of_years month_of days_of_months primary_on excluded is_eligible is_scheduled eligible_pocs monitor_day site_day days_of_quarter first_days_after first_days strata_of
returns c = record {
  valid_before = valid-is_office every_sixth refl;
  valid_after = valid-is_office corrected_pm10 refl;
  strata = refl;
  stratum = refl;
  second = refl;
  samples = refl;
  same_samples = refl;
  new_samples = refl;
}
