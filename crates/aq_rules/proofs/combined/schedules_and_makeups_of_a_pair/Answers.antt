use Rattle.std.proofs.Common.{refl}
use Rattle.aq_base.specs.Calendar.{days_of_years, days_of_months, year_of, month_of}
use Rattle.aq_rules.specs.Office.Designation.{primary_on}
use Rattle.aq_rules.specs.Office.Exclusion.{excluded}
use Rattle.aq_rules.specs.Office.Monitors.{is_eligible}
use Rattle.aq_rules.specs.Office.Schedule.{is_scheduled}
use Rattle.aq_rules.specs.Particles.ParticleDay.{eligible_pocs, monitor_day, site_day}
use Rattle.aq_rules.specs.Particles.QuarterCounts.{days_of_quarter}
use Rattle.aq_rules.specs.Combined.Pair.{pair_day, pair_credits, pair_counts}
use Rattle.aq_rules.proofs.combined.schedules_and_makeups_of_a_pair.Goals as goal

pub returns : goal.returns
unfolding days_of_years days_of_months is_scheduled excluded primary_on is_eligible eligible_pocs monitor_day site_day pair_day year_of month_of pair_credits days_of_quarter pair_counts
returns c = record { joined_sites_before = refl; sites_before = refl; joined_sites_after = refl; sites_day = refl; joined_day = refl; only_the_sites = refl; credit_by_the_sites_schedule = refl; no_credit_by_the_pairs = refl; no_credit_of_the_site_alone = refl; earlier = refl; takes_none = refl; counts = refl; counts_not_missed = refl }
