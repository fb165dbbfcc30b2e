use Rattle.std.proofs.Common.{refl}
use Rattle.aq_base.specs.Calendar.{days_of_years, days_of_months}
use Rattle.aq_rules.specs.Office.Designation.{primary_on}
use Rattle.aq_rules.specs.Office.Exclusion.{excluded}
use Rattle.aq_rules.specs.Office.Monitors.{is_eligible}
use Rattle.aq_rules.specs.Particles.ParticleDay.{eligible_pocs, monitor_day, site_day}
use Rattle.aq_rules.proofs.particles.particle_day.days_of_monitors_and_sites.Goals as goal

pub returns : goal.returns
unfolding days_of_years days_of_months excluded primary_on is_eligible eligible_pocs monitor_day site_day
returns c = record { high = refl; lower = refl; coarse = refl; eighteen = refl; fine = refl; one_excluded_hour_excludes_the_day_coarse = refl; event_from_midnight_fine = refl; event_from_one_fine = refl; event_from_midnight_coarse = refl; event_from_one_coarse = refl; eligible = refl; not_eligible = refl; not_registered = refl; other_monitors_have_no_day_fine = refl; other_monitors_have_no_day_coarse = refl; hours = refl; day = refl; primary = refl; others = refl; one_monitor_counts_for_pm10_primary = refl; primary_without = refl; lowest = refl }
