-- The days of which something is observed.
use Rattle.std.specs.Prelude.{ℕ, ◌/◌, ◌&&◌, ◌==◌, Bool, false, Option, Some, None}
use Rattle.aq_base.specs.Site.{Site}
use Rattle.aq_base.specs.declared.monitor.Pollutant.{Pollutant}
use Rattle.aq_base.specs.declared.observation.ObsKey.{ObsKey}
use Rattle.aq_base.specs.declared.observation.Observation.{Observation}
use Rattle.aq_rules.specs.Office.Monitors.{is_same_pollutant, is_same_site}
use Rattle.aq_particle_cells.specs.declared.days.observed.SiteDay.{SiteDay}

-- whether an observation of the pollutant lies in a day of a site
abbrev pub lies_on : Pollutant → Site → ℕ → ObsKey → Bool
lies_on pollutant site day key =
    is_same_pollutant key.monitor.pollutant pollutant && is_same_site key.monitor.site site && (key.hour / 24 == day)

abbrev pub observes : Pollutant → Site → ℕ → ObsKey × Observation → Bool
observes pollutant site day row = lies_on pollutant site day row.0

-- whether that day is the last one
abbrev pub is_last : Option SiteDay → Site → ℕ → Bool
is_last (Some last) site day = is_same_site last.site site && (last.day == day)
is_last None site day = false
