-- The last day with an observation: of listed monitors, of a site and pollutant, and of the office (own).
use Rattle.std.specs.Prelude.{ℕ, ◌*◌, max, Option, Some, None, List, [], ◌∷◌, map, flat_map}
use Rattle.aq_base.specs.Site.{Site}
use Rattle.aq_base.specs.declared.monitor.Pollutant.{Pollutant}
use Rattle.aq_rules.specs.Listed.Monitors.{ListedMonitor, listed_monitor, listed_monitors, monitors_of}
use Rattle.aq_rules.specs.Office.Office.{Office, sites_of}
use Rattle.aq_rules.specs.Shown.OtherSheets.{rising_sites}

-- the later of two days; no day is earlier than each
abbrev pub later : Option ℕ → Option ℕ → Option ℕ
later None other = other
later (Some day) None = Some day
later (Some day) (Some other) = Some (max day other)

-- the first hour of a day, and that of all days if there is none
abbrev pub first_hour : Option ℕ → ℕ
first_hour None = 0
first_hour (Some day) = 24 * day

-- the latest of the last days of monitors
abbrev pub latest : List ListedMonitor → Option ℕ
latest [] = None
latest (row ∷ rows) = later row.last (latest rows)

-- that of the monitors of all registered sites
unfoldable pub last_day : Office → Option ℕ
last_day office = latest (flat_map (listed_monitors office) (rising_sites (sites_of office.records)))

-- that of the monitors of a site and pollutant
unfoldable pub last_day_at : Office → Site → Pollutant → Option ℕ
last_day_at office site pollutant = latest (map (listed_monitor office) (monitors_of office site pollutant))
