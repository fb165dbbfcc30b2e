use Rattle.std.proofs.Common.{refl}
use Rattle.aq_base.specs.Calendar.{days_of_years, days_of_months}
use Rattle.aq_rules.specs.DesignValues.{design_value}
use Rattle.aq_rules.specs.Office.Designation.{primary_on}
use Rattle.aq_rules.specs.Office.Exclusion.{excluded}
use Rattle.aq_rules.specs.Office.Monitors.{is_eligible}
use Rattle.aq_rules.specs.Office.Schedule.{is_scheduled}
use Rattle.aq_rules.specs.Particles.ParticleDay.{eligible_pocs, monitor_day, site_day}
use Rattle.aq_rules.specs.Particles.Pm10Estimate.{pm10_quarter, pm10_year}
use Rattle.aq_rules.specs.Particles.Pm10Verdict.{pm10_design}
use Rattle.aq_rules.specs.Particles.QuarterCounts.{days_of_quarter}
use Rattle.aq_rules.specs.Particles.Strata.{first_days_after, first_days, strata_of}
use Rattle.aq_rules.specs.WhatIf.Assumed.{what_if, decisive}
use Rattle.aq_rules.proofs.what_if.events_that_decide_a_pm10_verdict.Goals as goal

pub returns : goal.returns
unfolding days_of_years days_of_months design_value primary_on excluded is_eligible is_scheduled eligible_pocs monitor_day site_day pm10_quarter pm10_year pm10_design days_of_quarter first_days_after first_days strata_of what_if decisive
returns c = record { events = refl; decisive = refl; beside_agreed = refl; agreed = refl; none = refl; last_agreed = refl; last_disagreed = refl; elsewhere = refl; unknown = refl; known = refl }
