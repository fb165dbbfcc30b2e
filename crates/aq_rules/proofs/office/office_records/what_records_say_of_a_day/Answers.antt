use Rattle.std.proofs.Common.{refl}
use Rattle.aq_rules.specs.Office.Designation.{primary_on}
use Rattle.aq_rules.specs.Office.Schedule.{is_scheduled}
use Rattle.aq_base.specs.Calendar.{days_of_years}
use Rattle.aq_rules.specs.Office.Season.{season_of}
use Rattle.aq_rules.proofs.office.office_records.what_records_say_of_a_day.Goals as goal

pub returns : goal.returns
unfolding primary_on is_scheduled season_of days_of_years
returns c = record { before = refl; first = refl; second = refl; ended = refl; anchor = refl; after = refl; earlier = refl; between = refl; not_begun = refl; recorded = refl; whole = refl }
