use Rattle.std.proofs.Common.{refl}
use Rattle.aq_base.specs.Calendar.{days_of_years, days_of_months}
use Rattle.aq_rules.specs.Office.Monitors.{is_eligible}
use Rattle.aq_rules.specs.Office.Exclusion.{excluded}
use Rattle.aq_rules.specs.Office.Designation.{primary_on}
use Rattle.aq_rules.specs.Ozone.SiteHour.{site_hour}
use Rattle.aq_rules.specs.Ozone.EightHour.{eight_hours, window}
use Rattle.aq_rules.specs.Ozone.OzoneDay.{starts_of, windows, ozone_day}
use Rattle.aq_rules.proofs.Ranges.{windows-same, ozone_day-same}
use Rattle.aq_rules.proofs.ozone.ozone_day.days_of_offices.Goals as goal

pub returns : goal.returns
unfolding days_of_years days_of_months is_eligible excluded primary_on site_hour eight_hours window starts_of windows ozone_day
returns c = record { eight_hours_above_the_level_are_a_valid_day = refl; agreed = refl; refused = refl; averages = windows-same; result = ozone_day-same }
