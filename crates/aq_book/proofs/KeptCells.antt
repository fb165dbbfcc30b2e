-- The hours of a site are kept, the days of a year held, and the days of particles kept, as the office has them.
use Rattle.std.proofs.Common.{◌≡◌, ℕ, ◌+◌, ◌/◌, ◌≤◌, refl, arith}
use Rattle.std.specs.Prelude.{nat_le, nat_lt, IsTrue}
use Rattle.std.proofs.lemmas.Bool.{and_parts}
use Rattle.std.proofs.lemmas.Bool.Decides.{nat_tests}
use Rattle.aq_base.specs.Calendar.{days_in_year, year_first}
use Rattle.aq_base.specs.Site.{Site}
use Rattle.aq_base.specs.declared.day.TheConstants.{LAST_DAY, LAST_HOUR}
use Rattle.aq_base.specs.declared.monitor.Pollutant.TheVariants.{Pm10, Pm25}
use Rattle.aq_rules.specs.Office.Office.{Office}
use Rattle.aq_rules.specs.Ozone.SiteHour.{site_hour}
use Rattle.aq_rules.specs.Particles.ParticleDay.{site_day}
use Rattle.aq_ozone_cells.specs.FilledDays.{AreKept}
use Rattle.aq_ozone_cells.specs.KeptDays.{held_at, hour_at}
use Rattle.aq_ozone_cells.specs.OzoneCells.{held_day, is_day_of, Cells}
use Rattle.aq_particle_cells.specs.Days.KeptDays.{cell_at, Days}
use Rattle.aq_particle_cells.specs.Pm10.Pm10Cells.{Pm10Kept}
use Rattle.aq_particle_cells.specs.Pm10.Pm10Levels as pm10
use Rattle.aq_particle_cells.specs.Pm25.Pm25Levels as pm25

pub hours-kept : (office : Office) (cells : Cells) (site : Site) → AreKept office cells → (hour : ℕ) → hour ≤ LAST_HOUR → hour_at cells site hour ≡ site_hour office site hour
unfolding AreKept
hours-kept office cells site kept hour within = (kept site (hour / 24) (omega (arith, within))).hours hour refl

pub days-held : (office : Office) (cells : Cells) (site : Site) (year : ℕ) → AreKept office cells → year_first year + days_in_year year ≤ LAST_DAY + 1
    → (day : ℕ) → IsTrue (is_day_of year day) → held_at cells site day ≡ held_day office site day
unfolding AreKept
days-held office cells site year kept in_profile day its =
    let parts = and_parts (nat_le (year_first year) day) (nat_lt day (year_first year + days_in_year year)) its in
    let within : day ≤ LAST_DAY = grind (arith, nat_tests, parts.1, in_profile) in
    (kept site day within).held

pub pm25-day-kept : (office : Office) (days : Days) (site : Site) (day : ℕ) → pm25.AreKept office days → cell_at days site day ≡ site_day office site Pm25 day
unfolding pm25.AreKept
pm25-day-kept office days site day kept = (kept site day).value

pub pm10-day-kept : (office : Office) (kept : Pm10Kept) (site : Site) (day : ℕ) → pm10.AreKept office kept → cell_at kept.days site day ≡ site_day office site Pm10 day
unfolding pm10.AreKept
pm10-day-kept office kept site day are = (are site day).value
