use Rattle.std.proofs.Common.{refl}
use Rattle.aq_base.specs.Calendar.{days_of_months, days_of_years}
use Rattle.aq_rules.proofs.office.limits.limits_of_events_and_observations.Goals as goal

pub returns : goal.returns
unfolding days_of_months days_of_years
returns c = record { hours = refl; more_hours = refl; leap_year = refl; an_hour_more = refl; numbers = refl; methods = refl; ten = refl; eleven = refl }
