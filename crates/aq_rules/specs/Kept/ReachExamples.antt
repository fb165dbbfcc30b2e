-- Offices before and after small changes, on which the laws work out what a change reaches and costs.
use Rattle.std.specs.Prelude.{ℕ, ◌+◌, true, List, [], ◌∷◌, ◌++◌, map, replicate}
use Rattle.std.specs.List.{range_with_len}
use Rattle.aq_base.specs.Calendar.{hour_number}
use Rattle.aq_base.specs.declared.monitor.Pollutant.TheVariants.{Ozone, Pm25, Pm10}
use Rattle.aq_base.specs.declared.observation.ObsKey.{ObsKey}
use Rattle.aq_base.specs.declared.observation.Observation.{Observation}
use Rattle.aq_base.specs.declared.office.OfficeRecord.{OfficeRecord}
use Rattle.aq_base.specs.declared.office.OfficeRecord.TheVariants.{Primary, Schedule, Event, Concurrence}
use Rattle.aq_rules.specs.Office.Office.{Office, StoredLoad}
use Rattle.aq_rules.specs.Office.OfficeExamples.{west, east, monitors, monitor_at, measured, noon, plain_day, smoke}

-- ---- offices

-- the monitors of two sites, without an observation
abbrev pub before_load : Office
before_load = record { records = monitors; observations = []; loads = [] }

-- the load 7, as it is kept
abbrev pub seventh_load : StoredLoad
seventh_load = record {
  number = 7;
  digest = replicate 32 0;
  reply = record { number = 7; lines = 0; accepted = 0; refused = 0; listed = []; rest = [] };
}

-- the same office after the load 7, which puts these observations
abbrev pub after_load : List (ObsKey × Observation) → Office
after_load observations = record before_load { observations = observations; loads = seventh_load ∷ [] }

-- the same office after a load without a number, which puts these records and observations
abbrev pub after_changes : List OfficeRecord → List (ObsKey × Observation) → Office
after_changes records observations = record before_load { records = monitors ++ records; observations = observations }

-- an office with these records alone
abbrev pub with_records : List OfficeRecord → Office
with_records records = record before_load { records = records }

-- ---- observations

-- the west's ozone at an hour
abbrev pub ozone_at : ℕ → (ObsKey × Observation)
ozone_at hour = measured west Ozone 1 60 [] hour

-- its ozone from 07:00 of 1 July 2024 to 06:00 of the next day
abbrev pub hours_of_a_day : List (ObsKey × Observation)
hours_of_a_day = map ozone_at (range_with_len (hour_number plain_day 7) 24)

-- the key of such an observation, and those of the west's PM2.5 and PM10 sample of a day
abbrev pub ozone_key : ℕ → ObsKey
ozone_key hour = record { monitor = monitor_at west Ozone 1; hour = hour }

abbrev pub pm25_key : ℕ → ObsKey
pm25_key day = record { monitor = monitor_at west Pm25 4; hour = hour_number day 0 }

abbrev pub pm10_key : ℕ → ObsKey
pm10_key day = record { monitor = monitor_at west Pm10 3; hour = hour_number day 0 }

-- ---- records

-- designations from 1 July 2024 on. Of the west's ozone POC 1 is the primary for two days; its PM10 and the east's ozone have one for four days, from 2 July to 5 July. Another one starts in between each time, and stands before it in the list: of ozone, and of the west
abbrev pub designations : List OfficeRecord
designations =
    monitors
    ++ Primary west Ozone plain_day 1 ∷ Primary west Ozone (plain_day + 2) 3
    ∷ Primary west Pm10 (plain_day + 1) 3 ∷ Primary west Pm10 (plain_day + 5) 1
    ∷ Primary east Ozone (plain_day + 1) 2 ∷ Primary east Ozone (plain_day + 5) 0 ∷ []

-- the event 7, with its concurrence, in the west's ozone from 12:00 to 14:00
abbrev pub smoky : List OfficeRecord
smoky = monitors ++ Event 7 west Ozone noon (noon + 2) smoke ∷ Concurrence 7 true ∷ []

-- 4 July 2024, and 1 January, April and July 2025
abbrev pub scheduled_day : ℕ
scheduled_day = plain_day + 3

abbrev pub new_year : ℕ
new_year = plain_day + 184

abbrev pub april : ℕ
april = new_year + 90

abbrev pub july : ℕ
july = new_year + 181

-- schedules from 1 July 2024 on. Of the west's PM10 each sixth day from 4 July on is scheduled, for two quarters; of its PM2.5 each third day for three, and of the east's for four. Another one starts before the end of the last two, and stands before them in the list: of PM10, and of the west
abbrev pub schedules : List OfficeRecord
schedules =
    monitors
    ++ Schedule west Pm10 plain_day 6 scheduled_day ∷ Schedule west Pm10 new_year 3 new_year
    ∷ Schedule west Pm25 plain_day 3 plain_day ∷ Schedule west Pm25 april 1 april
    ∷ Schedule east Pm25 plain_day 3 plain_day ∷ Schedule east Pm25 july 1 july ∷ []

-- the same schedule of the west's PM2.5, without one that comes after it
abbrev pub last_schedule : List OfficeRecord
last_schedule = monitors ++ Schedule west Pm25 plain_day 3 plain_day ∷ []
