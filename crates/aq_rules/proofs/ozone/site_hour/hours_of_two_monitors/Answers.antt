use Rattle.std.proofs.Common.{refl}
use Rattle.aq_base.specs.Calendar.{days_of_years, days_of_months}
use Rattle.aq_rules.specs.Office.Monitors.{is_eligible}
use Rattle.aq_rules.specs.Office.Exclusion.{excluded}
use Rattle.aq_rules.specs.Office.Designation.{primary_on}
use Rattle.aq_rules.specs.Ozone.SiteHour.{site_hour}
use Rattle.aq_rules.proofs.ozone.site_hour.hours_of_two_monitors.Goals as goal

pub returns : goal.returns
unfolding days_of_years days_of_months is_eligible excluded primary_on site_hour
returns c = record { secondaries_are_averaged = refl; primary_stands_alone = refl }
