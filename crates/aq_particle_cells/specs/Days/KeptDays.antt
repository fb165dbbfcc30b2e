-- What is kept of the days of sites: their values, and the creditable samples that they give their quarters.
use Rattle.std.specs.Prelude.{ℕ, List, Option, None, option_and_then, unwrap_or, ℤ, IfSome}
use Rattle.aq_base.specs.Site.{Site}
use Rattle.aq_rules.specs.Ozone.SiteHour.{Cell}
use Rattle.aq_rules.specs.Particles.ParticleDay.{unless_excluded}
use Rattle.aq_series.specs.DayCells.{IsParticle}
use Rattle.aq_particle_cells.specs.Days.SiteTimes.{found_at}
use Rattle.aq_particle_cells.specs.declared.days.kept_days.KeptDay.{KeptDay}
use Rattle.aq_particle_cells.specs.declared.days.site_time.SiteTime.{SiteTime}

-- a day of which nothing is kept
abbrev pub no_day : KeptDay
no_day = record { cell = None; sample = None }

-- what is kept of the days of sites
abbrev pub Days : Type 0
Days = List (SiteTime × KeptDay)

abbrev pub day_at : Days → Site → ℕ → KeptDay
day_at days site day = unwrap_or (found_at days site day) no_day

-- the value of a day, and the sample that counts for it
unfoldable pub cell_at : Days → Site → ℕ → Option Cell
cell_at days site day = (day_at days site day).cell

unfoldable pub sample_at : Days → Site → ℕ → Option Cell
sample_at days site day = (day_at days site day).sample

-- the value of a day, unless it is excluded
abbrev pub net_of : KeptDay → Option ℤ
net_of day = option_and_then unless_excluded day.cell

-- the values of days are in the range of particles
abbrev pub AreDaysOfParticles : Days → Type 0
AreDaysOfParticles days = (site : Site) (day : ℕ) → IfSome (cell_at days site day) (λ (cell : Cell). IsParticle cell.value)
