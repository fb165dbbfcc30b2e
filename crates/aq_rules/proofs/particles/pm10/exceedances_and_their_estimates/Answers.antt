use Rattle.std.proofs.Common.{refl}
use Rattle.aq_rules.proofs.Quotients.{exceeds-from}
use Rattle.aq_base.specs.Calendar.{days_of_years, days_of_months}
use Rattle.aq_rules.specs.Office.Designation.{primary_on}
use Rattle.aq_rules.specs.Office.Exclusion.{excluded}
use Rattle.aq_rules.specs.Office.Monitors.{is_eligible}
use Rattle.aq_rules.specs.Particles.ParticleDay.{eligible_pocs, monitor_day, site_day}
use Rattle.aq_rules.specs.Particles.Pm10Estimate.{pm10_quarter}
use Rattle.aq_rules.specs.Particles.QuarterCounts.{days_of_quarter}
use Rattle.aq_rules.specs.Office.Schedule.{is_scheduled}
use Rattle.aq_rules.specs.Particles.Strata.{first_days_after, first_days, strata_of}
use Rattle.aq_rules.proofs.particles.pm10.exceedances_and_their_estimates.Goals as goal

pub returns : goal.returns
unfolding days_of_years days_of_months excluded primary_on is_eligible eligible_pocs monitor_day site_day is_scheduled days_of_quarter first_days_after first_days strata_of pm10_quarter
returns c = record { below = refl; above = refl; everywhere = exceeds-from; quarter = refl; year = refl; verdict = refl; second_sample_halves_its_stratum_quarter = refl; second_sample_halves_its_stratum_year = refl; second_sample_halves_its_stratum_verdict = refl; four = refl; three = refl; lower_estimate_takes_all_scheduled_days = refl }
