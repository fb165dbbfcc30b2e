use Rattle.std.proofs.Common.{refl}
use Rattle.std.specs.Fmt.{digits}
use Rattle.aq_base.specs.Calendar.{days_of_months, days_of_years, month_of, year_of}
use Rattle.aq_base.specs.Decimal.{last_digits}
use Rattle.aq_base.specs.Text.{day_text, site_text}
use Rattle.aq_rules.specs.Listed.Daily.{pm10_days_sheet, stratum_place}
use Rattle.aq_rules.specs.Office.Designation.{primary_on}
use Rattle.aq_rules.specs.Office.Exclusion.{excluded}
use Rattle.aq_rules.specs.Office.Monitors.{is_eligible}
use Rattle.aq_rules.specs.Office.Schedule.{is_scheduled}
use Rattle.aq_rules.specs.Particles.ParticleDay.{eligible_pocs, monitor_day, site_day}
use Rattle.aq_rules.specs.Particles.QuarterCounts.{days_of_quarter}
use Rattle.aq_rules.specs.Particles.Strata.{first_days, first_days_after}
use Rattle.aq_rules.specs.Shown.Sheet.{text_of}
use Rattle.aq_rules.proofs.listed.days.days_of_coarse_particles_name_their_stratum.Goals as goal

pub returns : goal.returns
unfolding digits day_text days_of_months days_of_quarter days_of_years eligible_pocs excluded first_days first_days_after is_eligible is_scheduled last_digits monitor_day month_of pm10_days_sheet primary_on site_day site_text stratum_place text_of year_of
returns c = record { places = refl; first = refl; sheet = refl; last = refl }
