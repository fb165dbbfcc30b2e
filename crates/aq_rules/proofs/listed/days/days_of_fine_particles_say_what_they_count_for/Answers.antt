use Rattle.std.proofs.Common.{refl}
use Rattle.std.specs.Fmt.{digits}
use Rattle.aq_base.specs.Calendar.{days_of_months, days_of_years, month_of, year_of}
use Rattle.aq_base.specs.Decimal.{last_digits}
use Rattle.aq_base.specs.Text.{day_text, site_text}
use Rattle.aq_rules.specs.Listed.Daily.{is_credited, pm25_days_sheet}
use Rattle.aq_rules.specs.Office.Designation.{primary_on}
use Rattle.aq_rules.specs.Office.Exclusion.{excluded}
use Rattle.aq_rules.specs.Office.Monitors.{is_eligible}
use Rattle.aq_rules.specs.Office.Schedule.{is_scheduled}
use Rattle.aq_rules.specs.Particles.ParticleDay.{eligible_pocs, monitor_day, site_day}
use Rattle.aq_rules.specs.Shown.Sheet.{text_of}
use Rattle.aq_rules.proofs.listed.days.days_of_fine_particles_say_what_they_count_for.Goals as goal

pub returns : goal.returns
unfolding digits day_text days_of_months days_of_years eligible_pocs excluded is_credited is_eligible is_scheduled last_digits monitor_day month_of pm25_days_sheet primary_on site_day site_text text_of year_of
returns c = record { sheet = refl; in_turn = refl; others = refl }
