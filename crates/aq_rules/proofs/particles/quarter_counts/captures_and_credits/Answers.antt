use Rattle.std.proofs.Common.{refl}
use Rattle.aq_base.specs.Calendar.{days_of_years, days_of_months, year_of, month_of}
use Rattle.aq_rules.specs.Office.Designation.{primary_on}
use Rattle.aq_rules.specs.Office.Exclusion.{excluded}
use Rattle.aq_rules.specs.Office.Monitors.{is_eligible}
use Rattle.aq_rules.specs.Particles.ParticleDay.{eligible_pocs, monitor_day, site_day}
use Rattle.aq_rules.specs.Office.Schedule.{is_scheduled}
use Rattle.aq_rules.specs.Particles.QuarterCounts.{days_of_quarter, credits, quarter_counts}
use Rattle.aq_rules.proofs.particles.quarter_counts.captures_and_credits.Goals as goal

pub returns : goal.returns
unfolding days_of_years days_of_months excluded primary_on is_eligible eligible_pocs monitor_day site_day is_scheduled year_of month_of days_of_quarter credits quarter_counts
returns c = record { enough = refl; too_few = refl; excluded = refl; none = refl; ninth = refl; twelfth = refl; week_later = refl; scheduled = refl; scheduled_a_week_later = refl; not_sampled = refl; before_the_next = refl; behind_the_next = refl; week_behind_the_next = refl; missed_is_sampled = refl; missed_is_unscheduled = refl; a_quarter_is_counted = refl }
