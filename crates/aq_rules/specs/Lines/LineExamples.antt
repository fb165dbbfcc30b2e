-- A small office, on which laws of the lines compute their examples.
use Rattle.std.specs.Prelude.{ℕ, ◌+◌, true, false, Some, None, List, [], ◌∷◌, ◌++◌, map, codes, pos, ℤ, replicate}
use Rattle.std.specs.List.{range_with_len}
use Rattle.aq_base.specs.Site.{Site}
use Rattle.aq_base.specs.declared.code.Code.{Code}
use Rattle.aq_base.specs.declared.monitor.MonitorId.{MonitorId}
use Rattle.aq_base.specs.declared.monitor.Pollutant.TheVariants.{Ozone, Pm25}
use Rattle.aq_base.specs.declared.monitor.Duration.TheVariants.{Hour, Day}
use Rattle.aq_base.specs.declared.office.OfficeRecord.TheVariants.{Monitor, Primary, Schedule, Season, Makeup, Event, Concurrence, Approved, Combined}
use Rattle.aq_base.specs.declared.reply.ListedLine.{ListedLine}
use Rattle.aq_base.specs.declared.rule.Rule.TheVariants.{BadTag}
use Rattle.aq_base.specs.declared.observation.ObsKey.{ObsKey}
use Rattle.aq_base.specs.declared.observation.Observation.{Observation}
use Rattle.aq_rules.specs.Office.Office.{Office, nothing}

abbrev pub home : Site
home = record { state = 6; county = 37; number = 1103 }

-- the site beside it
abbrev pub neighbor : Site
neighbor = record home { number = 1104 }

abbrev pub ozone_monitor : MonitorId
ozone_monitor = record { site = home; pollutant = Ozone; poc = 1 }

abbrev pub particle_monitor : MonitorId
particle_monitor = record { site = home; pollutant = Pm25; poc = 1 }

abbrev pub code_rt : Code
code_rt = record { first = 82; second = 84 }

-- 2024-01-01
abbrev pub new_year : ℕ
new_year = 12418

-- 2024-07-01 13:00
abbrev pub noon : ℕ
noon = 302413

-- a value by the method 087
abbrev pub valued : ℤ → Observation
valued value = record { value = Some value; null = None; quals = []; method = Some 87 }

-- only the ozone monitor stands
abbrev pub one_monitor : Office
one_monitor = record nothing { records = Monitor ozone_monitor Hour true ∷ [] }

-- two sites and a third one have an ozone monitor each, and the third one a PM2.5 monitor too
abbrev pub three_sites : Office
three_sites = record nothing {
  records =
      Monitor ozone_monitor Hour true
      ∷ Monitor (record ozone_monitor { site = neighbor }) Hour true
      ∷ Monitor (record ozone_monitor { site = record home { number = 1105 } }) Hour true
      ∷ Monitor (record particle_monitor { site = record home { number = 1105 } }) Day true
      ∷ [];
}

-- the first of them is combined with the second, from 2024-07-02
abbrev pub two_combined : Office
two_combined = record three_sites { records = three_sites.records ++ Combined home Ozone 12601 neighbor ∷ [] }

-- the monitor has an ozone hour
abbrev pub one_hour : Office
one_hour = record one_monitor { observations = (record { monitor = ozone_monitor; hour = noon }, valued (pos 71)) ∷ [] }

-- the same hour, kept before methods were
abbrev pub hour_without_method : Office
hour_without_method = record one_monitor {
  observations = (record { monitor = ozone_monitor; hour = noon }, record (valued (pos 71)) { method = None }) ∷ [];
}

-- a PM2.5 monitor of 24 hours stands with its sample of 2024-01-07
abbrev pub one_sample : Office
one_sample = record {
  records = Monitor particle_monitor Day true ∷ [];
  observations = (record { monitor = particle_monitor; hour = 298176 }, valued (pos 123)) ∷ [];
  loads = [];
}

-- a PM2.5 monitor of hours stands
abbrev pub hourly_particles : Office
hourly_particles = record nothing { records = Monitor (record { site = home; pollutant = Pm25; poc = 2 }) Hour true ∷ [] }

-- so many monitors of the site's ozone
abbrev pub many_monitors : ℕ → Office
many_monitors count = record nothing {
  records =
      map (λ poc. Monitor (record { site = home; pollutant = Ozone; poc = poc }) Hour true) (range_with_len 1 count);
}

-- so many sites, each with an ozone monitor
abbrev pub many_sites : ℕ → Office
many_sites count = record nothing {
  records =
      map (λ number. Monitor (record { site = record { state = 99; county = 1; number = number }; pollutant = Ozone; poc = 1 }) Hour true)
      (range_with_len 1 count);
}

-- the ozone monitor with so many designations, from one day to the next
abbrev pub many_primaries : ℕ → Office
many_primaries count = record nothing {
  records = Monitor ozone_monitor Hour true ∷ map (λ day. Primary home Ozone day 1) (range_with_len 0 count);
}

-- a PM2.5 monitor with so many schedules, from one day to the next
abbrev pub many_schedules : ℕ → Office
many_schedules count = record nothing {
  records = Monitor particle_monitor Day true ∷ map (λ day. Schedule home Pm25 day 3 day) (range_with_len 0 count);
}

-- a PM2.5 monitor with so many make-up records from new year's day on, each made up for five days later
abbrev pub many_makeups : ℕ → Office
many_makeups count = record nothing {
  records = Monitor particle_monitor Day true ∷ map (λ day. Makeup home day (day + 5)) (range_with_len new_year count);
}

-- the ozone monitor with so many events of an hour
abbrev pub many_events : ℕ → Office
many_events count = record nothing {
  records = Monitor ozone_monitor Hour true ∷ map (λ number. Event number home Ozone 0 0 code_rt) (range_with_len 1 count);
}

-- a body that inserts an ozone hour, the same again, and the next one
abbrev pub three_lines : List ℕ
three_lines =
    codes "RD|I|06|037|1103|44201|1|1|007|087|20240701|13:00|0.071\nRD|I|06|037|1103|44201|1|1|007|087|20240701|13:00|0.072\nRD|I|06|037|1103|44201|1|1|007|087|20240701|14:00|0.073\n"

abbrev pub hour_key : ℕ → ObsKey
hour_key hour = record { monitor = ozone_monitor; hour = hour }

-- an event with its concurrence
abbrev pub agreed_event : Office
agreed_event = record nothing {
  records = Monitor ozone_monitor Hour true ∷ Event 12 home Ozone 0 0 code_rt ∷ Concurrence 12 true ∷ [];
}

-- a digest, and another one
abbrev pub digest_a : List ℕ
digest_a = replicate 32 1

abbrev pub digest_b : List ℕ
digest_b = replicate 32 2

-- so many lines refused under one rule, from line 1 on
abbrev pub refused_lines : ℕ → List ListedLine
refused_lines count = map (λ line. record { line = line; rule = BadTag }) (range_with_len 1 count)

-- an office with a record of each kind, whose fields differ, and with the monitor that the joined site needs
abbrev pub one_of_each : Office
one_of_each = record nothing {
  records =
      Monitor (record { site = home; pollutant = Ozone; poc = 3 }) Hour true
      ∷ Monitor (record { site = home; pollutant = Pm25; poc = 4 }) Day false
      ∷ Monitor (record { site = neighbor; pollutant = Ozone; poc = 5 }) Hour true
      ∷ Primary home Ozone 12419 3
      ∷ Schedule home Pm25 12420 6 12424
      ∷ Season home 2024 12478 12722
      ∷ Makeup home 12427 12429
      ∷ Event 21 home Ozone 302419 302452 code_rt
      ∷ Concurrence 21 true
      ∷ Approved home 12603
      ∷ Combined home Ozone 12432 neighbor
      ∷ [];
}
