use Rattle.std.proofs.Common.{refl}
use Rattle.aq_base.specs.Calendar.{days_of_years, days_of_months, year_of, month_of}
use Rattle.aq_rules.specs.Office.Schedule.{is_scheduled}
use Rattle.aq_rules.specs.Particles.QuarterCounts.{days_of_quarter}
use Rattle.aq_rules.specs.Particles.Strata.{first_days_after, first_days, strata_of}
use Rattle.aq_rules.proofs.Quotients.{sixtieths-exact, single-estimate}
use Rattle.aq_rules.proofs.particles.strata.strata_and_their_sixtieths.Goals as goal

pub returns : goal.returns
unfolding days_of_years days_of_months year_of month_of is_scheduled days_of_quarter first_days_after first_days strata_of
returns c = record { unscheduled = refl; scheduled = refl; sooner = refl; first_day = refl; next_day = refl; sixtieths_are_exact = sixtieths-exact; single_samples_give_the_plain_estimate = single-estimate }
