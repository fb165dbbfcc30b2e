-- Monitors: which two are the same, and whose values count.
use Rattle.std.specs.Prelude.{Bool, true, false, ◌&&◌, ◌==◌, List}
use Rattle.std.specs.List.{list_any}
use Rattle.aq_base.specs.Site.{Site}
use Rattle.aq_base.specs.declared.monitor.Pollutant.{Pollutant}
use Rattle.aq_base.specs.declared.monitor.Pollutant.TheVariants.{Ozone, Pm25, Pm10}
use Rattle.aq_base.specs.declared.monitor.MonitorId.{MonitorId}
use Rattle.aq_base.specs.declared.observation.ObsKey.{ObsKey}
use Rattle.aq_base.specs.declared.office.OfficeRecord.{OfficeRecord}
use Rattle.aq_base.specs.declared.office.OfficeRecord.TheVariants.{Monitor}

abbrev pub is_same_site : Site → Site → Bool
is_same_site a b = (a.state == b.state) && (a.county == b.county) && (a.number == b.number)

abbrev pub is_same_pollutant : Pollutant → Pollutant → Bool
is_same_pollutant Ozone Ozone = true
is_same_pollutant Pm25 Pm25 = true
is_same_pollutant Pm10 Pm10 = true
is_same_pollutant _ _ = false

abbrev pub is_same_monitor : MonitorId → MonitorId → Bool
is_same_monitor a b = is_same_site a.site b.site && is_same_pollutant a.pollutant b.pollutant && (a.poc == b.poc)

-- whether two observations stand at one place
abbrev pub is_same_key : ObsKey → ObsKey → Bool
is_same_key a b = is_same_monitor a.monitor b.monitor && (a.hour == b.hour)

-- whether the record registers the monitor as eligible
abbrev pub makes_eligible : MonitorId → OfficeRecord → Bool
makes_eligible monitor (Monitor id duration eligible) = is_same_monitor id monitor && eligible
makes_eligible monitor _ = false

-- whether the monitor is registered and eligible; the values of no other monitor count (own)
unfoldable pub is_eligible : List OfficeRecord → MonitorId → Bool
is_eligible records monitor = list_any (makes_eligible monitor) records
