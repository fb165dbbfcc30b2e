-- Small offices of one site, on which the laws work the rules out.
use Rattle.std.specs.Prelude.{ℕ, ◌-◌, Bool, true, List, [], ◌∷◌, ◌++◌, map, replicate, Some, None, pos}
use Rattle.std.specs.List.{range_with_len}
use Rattle.aq_base.specs.Calendar.{day_number, hour_number}
use Rattle.aq_base.specs.Site.{Site}
use Rattle.aq_base.specs.declared.code.Code.{Code}
use Rattle.aq_base.specs.declared.monitor.Duration.TheVariants.{Hour}
use Rattle.aq_base.specs.declared.monitor.MonitorId.{MonitorId}
use Rattle.aq_base.specs.declared.monitor.Pollutant.TheVariants.{Ozone}
use Rattle.aq_base.specs.declared.observation.ObsKey.{ObsKey}
use Rattle.aq_base.specs.declared.observation.Observation.{Observation}
use Rattle.aq_base.specs.declared.office.OfficeRecord.{OfficeRecord}
use Rattle.aq_base.specs.declared.office.OfficeRecord.TheVariants.{Monitor, Primary, Event, Concurrence}
use Rattle.aq_base.specs.declared.reply.LoadReply.{LoadReply}
use Rattle.aq_rules.specs.Office.Office.{Office}
use Rattle.aq_rules.specs.Ozone.EightHour.{WindowRow}
use Rattle.aq_rules.specs.Ozone.OzoneDay.{OzoneDay, day_of_windows}
use Rattle.aq_rules.specs.Ozone.OzoneYear.{OzoneYear}

-- 06-037-1103
abbrev pub site : Site
site = record { state = 6; county = 37; number = 1103 }

abbrev pub monitor_id : ℕ → MonitorId
monitor_id poc = record { site = site; pollutant = Ozone; poc = poc }

abbrev pub registered : ℕ → OfficeRecord
registered poc = Monitor (monitor_id poc) Hour true

-- the value of a monitor for an hour, in thousandths of a ppm, with qualifier codes
abbrev pub reading : ℕ → ℕ → List Code → ℕ → (ObsKey × Observation)
reading poc value codes hour =
    (record { monitor = monitor_id poc; hour = hour }, record { value = Some (pos value); null = None; quals = codes; method = None })

-- POC 1 has this value for so many hours
abbrev pub run_of : ℕ → List Code → ℕ → ℕ → List (ObsKey × Observation)
run_of value codes first count = map (reading 1 value codes) (range_with_len first count)

abbrev pub office_of : List OfficeRecord → List (ObsKey × Observation) → Office
office_of records observations = record { records = records; observations = observations; loads = [] }

-- 1 July 2024, 31 December 2023 and 1 January 2024
abbrev pub summer_day : ℕ
summer_day = day_number 2024 7 1

abbrev pub old_years_day : ℕ
old_years_day = day_number 2023 12 31

abbrev pub new_years_day : ℕ
new_years_day = day_number 2024 1 1

-- 0.071 ppm from 10:00 to 17:00
abbrev pub afternoon : Office
afternoon = office_of (registered 1 ∷ []) (run_of 71 [] (hour_number summer_day 10) 8)

-- the reply to a load of its nine lines
abbrev pub nine_lines : LoadReply
nine_lines = record { number = 0; lines = 9; accepted = 9; refused = 0; listed = []; rest = [] }

-- one hour of 0.568 ppm
abbrev pub one_hour : ℕ → Office
one_hour hour = office_of (registered 1 ∷ []) (run_of 568 [] hour 1)

-- one hour at noon on each of four days of 2024
abbrev pub four_peaks : Office
four_peaks =
    office_of (registered 1 ∷ [])
    (reading 1 568 [] (hour_number (day_number 2024 6 1) 12) ∷ reading 1 600 [] (hour_number (day_number 2024 6 2) 12)
    ∷ reading 1 584 [] (hour_number (day_number 2024 7 1) 12) ∷ reading 1 576 [] (hour_number (day_number 2024 12 31) 12) ∷ [])

-- three monitors, of which POC 1 is the primary
abbrev pub three_monitors : List OfficeRecord
three_monitors = registered 1 ∷ registered 2 ∷ registered 3 ∷ Primary site Ozone 0 1 ∷ []

-- POC 2 has 0.041 and POC 3 has 0.044
abbrev pub secondaries : List (ObsKey × Observation)
secondaries = reading 2 41 [] (hour_number summer_day 12) ∷ reading 3 44 [] (hour_number summer_day 12) ∷ []

-- the code RT
abbrev pub smoke : Code
smoke = record { first = 82; second = 84 }

-- 0.060 from 00:00 to 06:00 of the next day, but 0.100 with the code RT from 12:00 to 14:00
abbrev pub smoke_day : List (ObsKey × Observation)
smoke_day =
    run_of 60 [] (hour_number summer_day 0) 12
    ++ run_of 100 (smoke ∷ []) (hour_number summer_day 12) 3
    ++ run_of 60 [] (hour_number summer_day 15) 16

-- the event of these hours
abbrev pub smoke_event : OfficeRecord
smoke_event = Event 1 site Ozone (hour_number summer_day 12) (hour_number summer_day 14) smoke

-- the smoky day, with the event and what the Administrator said of it
abbrev pub smoky : Bool → Office
smoky agreed = office_of (registered 1 ∷ smoke_event ∷ Concurrence 1 agreed ∷ []) smoke_day

-- rows of a day: one without an average, one of a single hour, and one of eight hours with this average
abbrev pub empty_row : WindowRow
empty_row = record { net = None; net_hours = 0; full = None; full_hours = 0 }

abbrev pub single_row : WindowRow
single_row = record { net = Some (pos 71); net_hours = 1; full = Some (pos 71); full_hours = 1 }

abbrev pub whole_row : ℕ → WindowRow
whole_row value = record { net = Some (pos value); net_hours = 8; full = Some (pos value); full_hours = 8 }

-- eight hours with this average: one whose net hours are three and give none, and one whose net hours are six and give another
abbrev pub excluded_row : ℕ → WindowRow
excluded_row value = record { net = None; net_hours = 3; full = Some (pos value); full_hours = 8 }

abbrev pub lowered_row : ℕ → ℕ → WindowRow
lowered_row value rest = record { net = Some (pos rest); net_hours = 6; full = Some (pos value); full_hours = 8 }

-- a day with so many averages, of which the first is `first` and the others 0.070 ppm
abbrev pub day_with : ℕ → ℕ → OzoneDay
day_with count first =
    day_of_windows (whole_row first ∷ replicate (count - 1) (whole_row 70) ++ replicate (17 - count) empty_row)

-- a year with a season of 245 days, so many of them valid, and this fourth highest value
abbrev pub year_with : ℕ → ℕ → OzoneYear
year_with valid fourth = record { season_days = 245; season_valid = valid; ranked = valid; fourth = Some (pos fourth) }

abbrev pub year_without_fourth : OzoneYear
year_without_fourth = record { season_days = 245; season_valid = 3; ranked = 3; fourth = None }
