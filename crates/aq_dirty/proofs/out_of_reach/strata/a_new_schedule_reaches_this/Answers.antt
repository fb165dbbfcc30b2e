use Rattle.std.proofs.Common.{refl}
use Rattle.aq_base.specs.Calendar.{year_of, days_of_years, month_of, days_of_months}
use Rattle.aq_rules.specs.Kept.Reach.{reach, changed_rows, each_once, cells_reading}
use Rattle.aq_rules.specs.Office.Schedule.{is_scheduled}
use Rattle.aq_rules.specs.Particles.QuarterCounts.{days_of_quarter}
use Rattle.aq_rules.specs.Particles.Strata.{first_days_after}
use Rattle.aq_rules.proofs.ValidOffice.{valid-is_office}
use Rattle.aq_dirty.specs.OutOfReach.Examples.{every_third}
use Rattle.aq_dirty.proofs.out_of_reach.strata.a_new_schedule_reaches_this.Goals as goal

pub returns : goal.returns
unfolding reach changed_rows each_once cells_reading year_of days_of_years month_of days_of_months is_scheduled days_of_quarter first_days_after
returns c = record {
  valid_after = valid-is_office every_third refl;
  strata = refl;
  quarters = refl;
  old_stratum = refl;
  new_stratum = refl;
}
