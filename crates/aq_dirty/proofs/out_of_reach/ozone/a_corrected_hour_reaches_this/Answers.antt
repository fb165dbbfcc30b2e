use Rattle.std.proofs.Common.{refl}
use Rattle.aq_base.specs.Calendar.{year_of, days_of_years, days_of_months}
use Rattle.aq_rules.specs.Kept.Reach.{reach, changed_rows, each_once, cells_reading}
use Rattle.aq_rules.specs.Office.Designation.{primary_on}
use Rattle.aq_rules.specs.Office.Exclusion.{excluded}
use Rattle.aq_rules.specs.Office.Monitors.{is_eligible}
use Rattle.aq_rules.specs.Ozone.SiteHour.{site_hour}
use Rattle.aq_rules.specs.Ozone.EightHour.{window, eight_hours}
use Rattle.aq_rules.proofs.ValidOffice.{valid-is_office}
use Rattle.aq_dirty.specs.OutOfReach.Examples.{afternoon, corrected}
use Rattle.aq_dirty.proofs.out_of_reach.ozone.a_corrected_hour_reaches_this.Goals as goal

pub returns : goal.returns
unfolding reach changed_rows each_once cells_reading year_of days_of_years days_of_months primary_on excluded is_eligible site_hour eight_hours window
returns c = record {
  valid_before = valid-is_office afternoon refl;
  valid_after = valid-is_office corrected refl;
  averages = refl;
  days = refl;
  years = refl;
  other_site = refl;
  from_noon = refl;
  corrected_from_noon = refl;
  from_13 = refl;
  corrected_from_13 = refl;
}
