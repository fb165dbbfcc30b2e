use Rattle.std.proofs.Common.{refl}
use Rattle.aq_base.specs.Calendar.{days_of_months, days_of_years, month_of, year_of}
use Rattle.aq_rules.specs.Listed.Completeness.{month_counts}
use Rattle.aq_rules.specs.Listed.Places.{days_of_month, standing_at}
use Rattle.aq_rules.specs.Office.Schedule.{is_scheduled}
use Rattle.aq_rules.specs.Ozone.OzoneYear.{days_of}
use Rattle.aq_rules.proofs.listed.lists.months_have_their_due_hours.Goals as goal

pub returns : goal.returns
unfolding days_of days_of_month days_of_months days_of_years is_scheduled month_counts month_of standing_at year_of
returns c = record { leap = refl; every_sixth_day = refl; every_third_day = refl; next_month = refl; january = refl; extra = refl; null_code = refl; other_year = refl; july = refl; ineligible = refl; none = refl; half = refl; below_half = refl }
