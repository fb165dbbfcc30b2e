use Rattle.std.proofs.Common.{refl}
use Rattle.aq_base.specs.Calendar.{days_of_years, days_of_months}
use Rattle.aq_rules.specs.Lists.{ranked}
use Rattle.aq_rules.specs.Office.Monitors.{is_eligible}
use Rattle.aq_rules.specs.Office.Exclusion.{excluded}
use Rattle.aq_rules.specs.Office.Designation.{primary_on}
use Rattle.aq_rules.specs.Office.Season.{season_of}
use Rattle.aq_rules.specs.Office.Approval.{is_approved}
use Rattle.aq_rules.specs.Ozone.SiteHour.{site_hour}
use Rattle.aq_rules.specs.Ozone.EightHour.{eight_hours, window}
use Rattle.aq_rules.specs.Ozone.OzoneDay.{starts_of, windows, ozone_day}
use Rattle.aq_rules.specs.Ozone.OzoneYear.{days_of, ozone_days, ozone_year}
use Rattle.aq_rules.proofs.what_if.an_event_moves_the_fourth_highest_value.Goals as goal

pub returns-clause-stands : goal.returns-clause-stands
unfolding days_of_years days_of_months ranked is_eligible excluded primary_on season_of is_approved site_hour eight_hours window starts_of windows ozone_day days_of ozone_days ozone_year
returns-clause-stands c = refl

pub returns-clause-as_if_agreed : goal.returns-clause-as_if_agreed
unfolding days_of_years days_of_months ranked is_eligible excluded primary_on season_of is_approved site_hour eight_hours window starts_of windows ozone_day days_of ozone_days ozone_year
returns-clause-as_if_agreed c = refl
