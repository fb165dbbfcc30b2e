use Rattle.std.proofs.Common.{refl}
use Rattle.std.specs.Fmt.{digits}
use Rattle.aq_base.specs.Calendar.{days_of_months, days_of_years, month_of, year_of}
use Rattle.aq_base.specs.Decimal.{last_digits}
use Rattle.aq_base.specs.Text.{day_text, hour_text, site_text}
use Rattle.aq_rules.specs.Listed.Highest.{days_ranked, deciding_rank, first_at, highest_ozone_sheet, highest_particles_sheet}
use Rattle.aq_rules.specs.Office.Designation.{primary_on}
use Rattle.aq_rules.specs.Office.Exclusion.{excluded}
use Rattle.aq_rules.specs.Office.Monitors.{is_eligible}
use Rattle.aq_rules.specs.Office.Schedule.{is_scheduled}
use Rattle.aq_rules.specs.Ozone.EightHour.{eight_hours, window}
use Rattle.aq_rules.specs.Ozone.OzoneDay.{ozone_day, starts_of, windows}
use Rattle.aq_rules.specs.Ozone.SiteHour.{site_hour}
use Rattle.aq_rules.specs.Particles.ParticleDay.{eligible_pocs, monitor_day, site_day}
use Rattle.aq_rules.specs.Particles.QuarterCounts.{credits, days_of_quarter, pm25_year, quarter_counts, quarter_values}
use Rattle.aq_rules.specs.Shown.Sheet.{text_of}
use Rattle.aq_rules.proofs.listed.days.highest_days_have_their_start.Goals as goal

pub returns : goal.returns
unfolding digits credits day_text days_of_months days_of_quarter days_of_years days_ranked deciding_rank eight_hours eligible_pocs excluded first_at highest_ozone_sheet highest_particles_sheet hour_text is_eligible is_scheduled last_digits monitor_day month_of ozone_day pm25_year primary_on quarter_counts quarter_values site_day site_hour site_text starts_of text_of window windows year_of
returns c = record { day = refl; net_day = refl; day_before = refl; whole = refl; net = refl; no_start = refl; ties = refl }
