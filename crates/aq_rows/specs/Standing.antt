-- Which observations can stand, whatever the office.
use Rattle.std.specs.Prelude.{Bool, ◌&&◌, nat_le}
use Rattle.aq_base.specs.declared.day.TheConstants.{LAST_HOUR}
use Rattle.aq_base.specs.declared.observation.ObsKey.{ObsKey}
use Rattle.aq_base.specs.declared.observation.Observation.{Observation}
use Rattle.aq_rules.specs.Office.Office.{is_site, is_poc, is_content}

-- the site, the POC and the hour are in their ranges, and the content is one of its pollutant
abbrev pub can_stand : ObsKey × Observation → Bool
can_stand entry =
    is_site entry.0.monitor.site && is_poc entry.0.monitor.poc && nat_le entry.0.hour LAST_HOUR
    && is_content entry.0.monitor.pollutant entry.1
