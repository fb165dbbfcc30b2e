use Rattle.std.proofs.Common.{refl}
use Rattle.aq_base.specs.Calendar.{days_of_years, days_of_months}
use Rattle.aq_rules.specs.Office.Approval.{is_approved}
use Rattle.aq_rules.specs.Office.Designation.{primary_on}
use Rattle.aq_rules.specs.Office.Exclusion.{excluded}
use Rattle.aq_rules.specs.Office.Monitors.{is_eligible}
use Rattle.aq_rules.specs.Ozone.SiteHour.{site_hour}
use Rattle.aq_rules.specs.Lists.{ranked}
use Rattle.aq_rules.specs.Office.Season.{season_of}
use Rattle.aq_rules.specs.Ozone.EightHour.{eight_hours}
use Rattle.aq_rules.specs.Ozone.OzoneDay.{starts_of}
use Rattle.aq_rules.specs.Ozone.OzoneYear.{days_of}
use Rattle.aq_rules.specs.Combined.Pair.{pair_ozone_day, pair_ozone_year, pair_hour}
use Rattle.aq_rules.proofs.combined.hours_and_approvals_of_a_pair.Goals as goal

pub returns : goal.returns
unfolding days_of_years days_of_months is_eligible excluded primary_on site_hour pair_hour is_approved ranked season_of eight_hours starts_of days_of pair_ozone_day pair_ozone_year
returns c = record { before = refl; only_the_sites = refl; joined = refl; excluded = refl; neither = refl; approved_before = refl; approved_by_the_joined_site_before = refl; approved_by_the_site_after = refl; approved_after = refl; year = refl }
