use Rattle.std.proofs.Common.{refl}
use Rattle.aq_base.specs.Calendar.{year_of, days_of_years, month_of, days_of_months}
use Rattle.aq_rules.specs.Kept.Reach.{reach, changed_rows, each_once, cells_reading}
use Rattle.aq_rules.specs.Office.Designation.{primary_on}
use Rattle.aq_rules.specs.Office.Exclusion.{excluded}
use Rattle.aq_rules.specs.Office.Monitors.{is_eligible}
use Rattle.aq_rules.specs.Particles.ParticleDay.{eligible_pocs, monitor_day, site_day}
use Rattle.aq_rules.proofs.ValidOffice.{valid-is_office}
use Rattle.aq_dirty.specs.OutOfReach.Examples.{joined_by_another, samplers}
use Rattle.aq_dirty.proofs.out_of_reach.particles.a_second_sampler_reaches_this.Goals as goal

pub returns : goal.returns
unfolding reach changed_rows each_once cells_reading year_of days_of_years month_of days_of_months primary_on excluded is_eligible eligible_pocs monitor_day site_day
returns c = record {
  valid_before = valid-is_office samplers refl;
  valid_after = valid-is_office joined_by_another refl;
  days = refl;
  of_pm10 = refl;
  value = refl;
  same_value = refl;
  new_value = refl;
}
