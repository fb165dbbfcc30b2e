-- An office of two sites and three pollutants, with monitors that count and monitors that do not, on which the laws work out what counts.
use Rattle.std.specs.Prelude.{ℕ, ◌+◌, true, false, List, [], ◌∷◌, ◌++◌, map, Some, None, pos}
use Rattle.std.specs.List.{range_with_len}
use Rattle.aq_base.specs.Calendar.{day_number, hour_number}
use Rattle.aq_base.specs.Site.{Site}
use Rattle.aq_base.specs.declared.code.Code.{Code}
use Rattle.aq_base.specs.declared.monitor.Duration.TheVariants.{Hour, Day}
use Rattle.aq_base.specs.declared.monitor.MonitorId.{MonitorId}
use Rattle.aq_base.specs.declared.monitor.Pollutant.{Pollutant}
use Rattle.aq_base.specs.declared.monitor.Pollutant.TheVariants.{Ozone, Pm25, Pm10}
use Rattle.aq_base.specs.declared.observation.ObsKey.{ObsKey}
use Rattle.aq_base.specs.declared.observation.Observation.{Observation}
use Rattle.aq_base.specs.declared.office.OfficeRecord.{OfficeRecord}
use Rattle.aq_base.specs.declared.office.OfficeRecord.TheVariants.{Monitor, Primary, Season, Event, Concurrence, Approved}
use Rattle.aq_rules.specs.Office.Office.{Office}
use Rattle.aq_rules.specs.Ozone.OzoneYear.{OzoneYear}

-- 06-037-1103 and 06-037-4004
abbrev pub west : Site
west = record { state = 6; county = 37; number = 1103 }

abbrev pub east : Site
east = record { state = 6; county = 37; number = 4004 }

abbrev pub monitor_at : Site → Pollutant → ℕ → MonitorId
monitor_at site pollutant poc = record { site = site; pollutant = pollutant; poc = poc }

-- the codes RT and RF
abbrev pub smoke : Code
smoke = record { first = 82; second = 84 }

abbrev pub fireworks : Code
fireworks = record { first = 82; second = 70 }

-- 1 and 4 July 2024, and noon of the first
abbrev pub plain_day : ℕ
plain_day = day_number 2024 7 1

abbrev pub festive_day : ℕ
festive_day = day_number 2024 7 4

abbrev pub noon : ℕ
noon = hour_number plain_day 12

-- in the west ozone has POCs 1 and 3, PM2.5 POCs 1 (hourly) and 4, and PM10 POC 3; POC 2 of ozone and of PM2.5 and POC 1 of PM10 are not eligible. In the east POC 2 is
abbrev pub monitors : List OfficeRecord
monitors =
    Monitor (monitor_at west Ozone 1) Hour true ∷ Monitor (monitor_at west Ozone 2) Hour false ∷ Monitor (monitor_at west Ozone 3) Hour true
    ∷ Monitor (monitor_at west Pm25 1) Hour true ∷ Monitor (monitor_at west Pm25 2) Day false ∷ Monitor (monitor_at west Pm25 4) Day true
    ∷ Monitor (monitor_at west Pm10 1) Day false ∷ Monitor (monitor_at west Pm10 3) Day true
    ∷ Monitor (monitor_at east Ozone 2) Hour true ∷ Monitor (monitor_at east Pm25 2) Day true ∷ []

-- smoke in the west's ozone from 12:00 to 14:00 of 1 July, and fireworks in its PM2.5 from 21:00 to 22:00 of 4 July
abbrev pub events : List OfficeRecord
events =
    Event 7 west Ozone noon (noon + 2) smoke
    ∷ Event 8 west Pm25 (hour_number festive_day 21) (hour_number festive_day 22) fireworks
    ∷ Concurrence 7 true ∷ Concurrence 8 true ∷ []

abbrev pub watched : List (ObsKey × Observation) → Office
watched observations = record { records = monitors ++ events; observations = observations; loads = [] }

-- the same office, in which POC 3 is the primary of the west's ozone, and POC 1 of its PM2.5 and of the east's ozone
abbrev pub designated : List (ObsKey × Observation) → Office
designated observations = record {
  records =
      monitors ++ Primary west Ozone 0 3 ∷ Primary west Pm25 0 1 ∷ Primary east Ozone 0 1 ∷ events;
  observations = observations;
  loads = [];
}

-- a value, in thousandths of a ppm or tenths of a µg/m3
abbrev pub measured : Site → Pollutant → ℕ → ℕ → List Code → ℕ → (ObsKey × Observation)
measured site pollutant poc value codes hour =
    (record { monitor = monitor_at site pollutant poc; hour = hour }, record { value = Some (pos value); null = None; quals = codes; method = None })

-- a null code, AN, in place of a value
abbrev pub missed : Site → Pollutant → ℕ → ℕ → (ObsKey × Observation)
missed site pollutant poc hour =
    (record { monitor = monitor_at site pollutant poc; hour = hour }, record { value = None; null = Some (record { first = 65; second = 78 }); quals = []; method = None })

-- a sample of 24 hours
abbrev pub sampled : Site → Pollutant → ℕ → ℕ → ℕ → (ObsKey × Observation)
sampled site pollutant poc value day = measured site pollutant poc value [] (hour_number day 0)

-- the west's hourly PM2.5 of 4 July: 12.0 from 04:00 to 20:00, and 51.0 with these codes at 21:00
abbrev pub festive_hours : List Code → List (ObsKey × Observation)
festive_hours codes =
    map (measured west Pm25 1 120 []) (range_with_len (hour_number festive_day 4) 17)
    ++ measured west Pm25 1 510 codes (hour_number festive_day 21) ∷ []

-- the west's ozone of 2024: a season from 1 June to 31 July, one hour at noon on two days of June, one of July and one of December, approvals of a day of June without hours, of a day of June with one and of a day of December, and one of the east
abbrev pub approved_june : Office
approved_june = record {
  records =
      monitors
      ++ Season west 2024 (day_number 2024 6 1) (day_number 2024 7 31)
      ∷ Approved west (day_number 2024 6 2) ∷ Approved west (day_number 2024 6 3) ∷ Approved west (day_number 2024 12 30)
      ∷ Approved east (day_number 2024 6 4) ∷ [];
  observations =
      measured west Ozone 1 568 [] (hour_number (day_number 2024 6 1) 12) ∷ measured west Ozone 1 600 [] (hour_number (day_number 2024 6 2) 12)
      ∷ measured west Ozone 1 584 [] (hour_number (day_number 2024 7 1) 12) ∷ measured west Ozone 1 576 [] (hour_number (day_number 2024 12 31) 12) ∷ [];
  loads = [];
}

-- a year whose season has so many days, so many of them valid
abbrev pub season_of_days : ℕ → ℕ → OzoneYear
season_of_days days valid = record { season_days = days; season_valid = valid; ranked = 40; fourth = Some (pos 69) }
