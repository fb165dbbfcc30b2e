use Rattle.std.proofs.Common.{refl}
use Rattle.aq_base.specs.Calendar.{days_of_years, days_of_months}
use Rattle.aq_rules.specs.Office.Designation.{primary_on}
use Rattle.aq_rules.specs.Office.Exclusion.{excluded}
use Rattle.aq_rules.specs.Office.Monitors.{is_eligible}
use Rattle.aq_rules.specs.Office.Questions.{combined}
use Rattle.aq_rules.specs.Ozone.SiteHour.{site_hour}
use Rattle.aq_rules.specs.Ozone.EightHour.{eight_hours, window}
use Rattle.aq_rules.specs.Ozone.OzoneDay.{starts_of, windows}
use Rattle.aq_rules.specs.Combined.Pair.{pair_hour, pair_windows}
use Rattle.aq_rules.proofs.combined.averages_on_the_day_before_a_site_is_joined.Goals as goal

pub returns : goal.returns
unfolding days_of_years days_of_months is_eligible excluded primary_on site_hour eight_hours starts_of combined pair_hour pair_windows window windows
returns c = record { full = refl; site_alone = refl; joined_site = refl; net = refl }
