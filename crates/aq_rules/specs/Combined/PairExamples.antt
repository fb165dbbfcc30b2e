-- A site in the west to which one in the east is joined, on which the laws work out what the pair reads.
use Rattle.std.specs.Prelude.{ℕ, true, List, [], ◌∷◌, ◌++◌, map}
use Rattle.std.specs.List.{range_with_len}
use Rattle.aq_base.specs.Calendar.{day_number, hour_number}
use Rattle.aq_base.specs.declared.code.Code.{Code}
use Rattle.aq_base.specs.declared.monitor.Duration.TheVariants.{Hour, Day}
use Rattle.aq_base.specs.declared.monitor.Pollutant.TheVariants.{Ozone, Pm25}
use Rattle.aq_base.specs.declared.observation.ObsKey.{ObsKey}
use Rattle.aq_base.specs.declared.observation.Observation.{Observation}
use Rattle.aq_base.specs.declared.office.OfficeRecord.TheVariants.{Monitor, Schedule, Season, Makeup as MakeupRecord, Event, Concurrence, Approved, Combined}
use Rattle.aq_rules.specs.Office.Office.{Office}
use Rattle.aq_rules.specs.Office.OfficeExamples.{west, east, smoke, monitor_at, measured, sampled}
use Rattle.aq_rules.specs.Ozone.OzoneExamples.{office_of}
use Rattle.aq_rules.specs.Particles.QuarterCounts.{Makeup}
use Rattle.aq_rules.specs.Combined.Pair.{Pair}

-- ---- ozone: joined from 2 July 2024

abbrev pub last_day : ℕ
last_day = day_number 2024 7 1

abbrev pub joining_day : ℕ
joining_day = day_number 2024 7 2

abbrev pub summer_pair : Pair
summer_pair = record { site = west; joined = east; from = joining_day }

-- the site has 0.080 from 07:00 of the day before to 06:00, and the joined site these values; what is smoky from 00:00 to 02:00 is excluded
abbrev pub moved : List (ObsKey × Observation) → Office
moved joined =
    office_of
    (Monitor (monitor_at west Ozone 1) Hour true ∷ Monitor (monitor_at east Ozone 1) Hour true
    ∷ Season west 2024 (day_number 2024 6 1) (day_number 2024 7 31) ∷ Season east 2024 (day_number 2024 4 1) (day_number 2024 6 30)
    ∷ Event 1 east Ozone (hour_number joining_day 0) (hour_number joining_day 2) smoke ∷ Concurrence 1 true
    ∷ Approved west last_day ∷ Approved west joining_day ∷ Approved east (day_number 2024 6 30) ∷ Approved east (day_number 2024 7 3)
    ∷ Combined west Ozone joining_day east ∷ [])
    (map (measured west Ozone 1 80 []) (range_with_len (hour_number last_day 7) 24) ++ joined)

-- the joined site's value for so many hours
abbrev pub joined_hours : ℕ → List Code → ℕ → ℕ → List (ObsKey × Observation)
joined_hours value codes first count = map (measured east Ozone 1 value codes) (range_with_len first count)

-- 0.060 from 00:00 to 06:00
abbrev pub moved_to_clean_air : Office
moved_to_clean_air = moved (joined_hours 60 [] (hour_number joining_day 0) 7)

-- ---- PM2.5: joined from 15 January 2024. The site is scheduled each sixth day and the joined site each third one, from 1 January on

abbrev pub winter : ℕ → ℕ
winter day = day_number 2024 1 day

abbrev pub winter_pair : Pair
winter_pair = record { site = west; joined = east; from = winter 15 }

-- the site's and the joined site's samples; the sample of 20 January makes up for the 13th at the site, and for the 19th at the joined site. Of the other two make-ups none is of the site in force on its missed day
abbrev pub moved_sampler : List (ObsKey × Observation) → Office
moved_sampler observations =
    office_of
    (Monitor (monitor_at west Pm25 1) Day true ∷ Monitor (monitor_at east Pm25 1) Day true
    ∷ Schedule west Pm25 (winter 1) 6 (winter 1) ∷ Schedule east Pm25 (winter 1) 3 (winter 1)
    ∷ MakeupRecord west (winter 13) (winter 20) ∷ MakeupRecord west (winter 25) (winter 26)
    ∷ MakeupRecord east (winter 7) (winter 8) ∷ MakeupRecord east (winter 19) (winter 20)
    ∷ Combined west Pm25 (winter 15) east ∷ [])
    observations

abbrev pub makes_up : ℕ → ℕ → Makeup
makes_up missed makeup = record { missed = winter missed; makeup = winter makeup }

-- samples at the site on the 8th and the 26th, and at the joined site on the 20th
abbrev pub made_up : Office
made_up = moved_sampler (sampled west Pm25 1 100 (winter 8) ∷ sampled west Pm25 1 100 (winter 26) ∷ sampled east Pm25 1 110 (winter 20) ∷ [])

-- and at the site on the 13th, which is not missed then
abbrev pub not_missed : Office
not_missed =
    moved_sampler
    (sampled west Pm25 1 100 (winter 8) ∷ sampled west Pm25 1 100 (winter 13) ∷ sampled west Pm25 1 100 (winter 26)
    ∷ sampled east Pm25 1 110 (winter 20) ∷ [])
