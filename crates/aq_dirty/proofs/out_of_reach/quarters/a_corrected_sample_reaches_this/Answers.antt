use Rattle.std.proofs.Common.{refl}
use Rattle.aq_base.specs.Calendar.{year_of, days_of_years, month_of, days_of_months}
use Rattle.aq_rules.specs.Kept.Reach.{reach, changed_rows, each_once, cells_reading}
use Rattle.aq_rules.specs.Lists.{ranked}
use Rattle.aq_rules.specs.Office.Designation.{primary_on}
use Rattle.aq_rules.specs.Office.Exclusion.{excluded}
use Rattle.aq_rules.specs.Office.Monitors.{is_eligible}
use Rattle.aq_rules.specs.Particles.ParticleDay.{eligible_pocs, monitor_day, site_day}
use Rattle.aq_rules.specs.Particles.QuarterCounts.{days_of_quarter, quarter_values, pm25_year}
use Rattle.aq_rules.proofs.ValidOffice.{valid-is_office}
use Rattle.aq_dirty.specs.OutOfReach.Examples.{corrected_sample}
use Rattle.aq_dirty.proofs.out_of_reach.quarters.a_corrected_sample_reaches_this.Goals as goal

pub returns : goal.returns
unfolding reach changed_rows each_once cells_reading year_of days_of_years month_of days_of_months ranked primary_on excluded is_eligible eligible_pocs monitor_day site_day days_of_quarter quarter_values pm25_year
returns c = record {
  valid_after = valid-is_office corrected_sample refl;
  years = refl;
  greatest = refl;
  new_greatest = refl;
}
