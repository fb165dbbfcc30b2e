-- A small office, and extracts over it, on which the laws work out what they change.
use Rattle.std.specs.Prelude.{ℕ, ◌+◌, true, List, [], ◌∷◌, ◌++◌, map, flat_map, reverse, codes, Option, Some, None, pos}
use Rattle.std.specs.List.{range_with_len}
use Rattle.aq_base.specs.Calendar.{day_number, hour_number}
use Rattle.aq_base.specs.declared.code.Code.{Code}
use Rattle.aq_base.specs.declared.monitor.Duration.TheVariants.{Hour, Day}
use Rattle.aq_base.specs.declared.monitor.Pollutant.TheVariants.{Ozone, Pm25, Pm10}
use Rattle.aq_base.specs.declared.observation.ObsKey.{ObsKey}
use Rattle.aq_base.specs.declared.observation.Observation.{Observation}
use Rattle.aq_base.specs.declared.office.OfficeRecord.TheVariants.{Monitor}
use Rattle.aq_rules.specs.Lines.Canonical.{time_text}
use Rattle.aq_rules.specs.Lines.Lines.{body_lines}
use Rattle.aq_rules.specs.Office.Load.{after_all}
use Rattle.aq_rules.specs.Office.Office.{Office}
use Rattle.aq_rules.specs.Office.OfficeExamples.{fireworks}
use Rattle.aq_rules.specs.Extracts.Changes.{DaySpan}
use Rattle.aq_rules.specs.Ozone.OzoneExamples.{monitor_id, office_of, registered, smoke, summer_day}
use Rattle.aq_rules.specs.Particles.ParticleExamples.{particle_sample, sampler, winter_day}
use Rattle.aq_rules.specs.Shown.ShownExamples.{other_site}

-- 1 July 2024 alone, that day and the next, and the first week of that January
abbrev pub on_that_day : DaySpan
on_that_day = record { first = summer_day; last = summer_day }

abbrev pub two_days : DaySpan
two_days = record { first = summer_day; last = summer_day + 1 }

abbrev pub first_week : DaySpan
first_week = record { first = day_number 2024 1 1; last = winter_day }

-- 0.071 ppm at a monitor, with qualifier codes, by a method
abbrev pub measured_by : ℕ → List Code → Option ℕ → ℕ → (ObsKey × Observation)
measured_by poc codes method hour =
    (record { monitor = monitor_id poc; hour = hour }, record { value = Some (pos 71); null = None; quals = codes; method = method })

abbrev pub measured_at : ℕ → (ObsKey × Observation)
measured_at hour = measured_by 1 [] (Some 87) hour

-- from 10:00 to 17:00
abbrev pub standing : Office
standing = office_of (registered 1 ∷ []) (map measured_at (range_with_len (hour_number summer_day 10) 8))

-- 12:00 with a code, 13:00 without a method, and 14:00; beside them 12:00 of the next day, and an hour of another monitor
abbrev pub varied : Office
varied =
    office_of (registered 1 ∷ registered 2 ∷ [])
    (measured_by 1 (smoke ∷ []) (Some 87) (hour_number summer_day 12) ∷ measured_by 1 [] None (hour_number summer_day 13)
    ∷ measured_at (hour_number summer_day 14) ∷ measured_at (hour_number (summer_day + 1) 12)
    ∷ measured_by 2 [] (Some 87) (hour_number summer_day 12) ∷ [])

-- 12:00 with the codes RT and RF
abbrev pub two_codes : Office
two_codes = office_of (registered 1 ∷ []) (measured_by 1 (smoke ∷ fireworks ∷ []) (Some 87) (hour_number summer_day 12) ∷ [])

-- of one site two monitors of ozone, and one of PM2.5 and of PM10 each; of a second site one of ozone
abbrev pub five_monitors : Office
five_monitors =
    office_of
    (registered 2 ∷ registered 12 ∷ sampler Pm25 Day 1 ∷ sampler Pm10 Day 1
    ∷ Monitor (record { site = other_site; pollutant = Ozone; poc = 1 }) Hour true ∷ []) []

-- a monitor of 24 hours with its sample of 7 January, of 12.0
abbrev pub one_day : Office
one_day = office_of (sampler Pm25 Day 1 ∷ []) (particle_sample Pm25 1 120 winter_day ∷ [])

-- a line of 0.071 ppm
abbrev pub line_at : List ℕ → List ℕ → List ℕ → List ℕ → List ℕ
line_at action poc date time =
    codes "RD|" ++ action ++ codes "|06|037|1103|44201|" ++ poc ++ codes "|1|007|087|" ++ date ++ codes "|" ++ time ++ codes "|0.071\n"

abbrev pub hour_line : ℕ → List ℕ
hour_line hour = line_at (codes "I") (codes "1") (codes "20240701") (time_text hour)

-- a line: its action, what it names from the site number to the method, its date, its hour and value, and a qualifier code
abbrev pub line_between : List ℕ → List ℕ → List ℕ → List ℕ → List ℕ → List ℕ
line_between action place date sample code =
    codes "RD|" ++ action ++ codes "|06|037|" ++ place ++ codes "|" ++ date ++ codes "|" ++ sample ++ codes "||||" ++ code ++ codes "\n"

-- two hours of one of them and one sample of each other, in the order of keys
abbrev pub lines_by_key : List ℕ → List ℕ → List ℕ → List (List ℕ)
lines_by_key action date code =
    line_between action (codes "1103|44201|2|1|007|087") date (codes "10:00|0.071") code
    ∷ line_between action (codes "1103|44201|2|1|007|087") date (codes "11:00|0.072") code
    ∷ line_between action (codes "1103|44201|12|1|007|087") date (codes "09:00|0.064") code
    ∷ line_between action (codes "1103|88101|1|7|105|145") date (codes "00:00|12.0") code
    ∷ line_between action (codes "1103|81102|1|7|001|079") date (codes "00:00|40.0") code
    ∷ line_between action (codes "1104|44201|1|1|007|087") date (codes "08:00|0.055") code ∷ []

-- these lines one after the other, in the order of keys and against it
abbrev pub by_key : List ℕ → List ℕ → List ℕ → List ℕ
by_key action date code = flat_map (λ line. line) (lines_by_key action date code)

abbrev pub against_key : List ℕ → List ℕ → List ℕ → List ℕ
against_key action date code = flat_map (λ line. line) (reverse (lines_by_key action date code))

-- the eight hours as they stand
abbrev pub eight_lines : List ℕ
eight_lines = flat_map hour_line (range_with_len 10 8)

-- 10:00 with 0.072, 11:00 to 16:00 as they stand, and 18:00 with 0.070
abbrev pub hours_of_extract : List ℕ
hours_of_extract =
    codes "RD|I|06|037|1103|44201|1|1|007|087|20240701|10:00|0.072\n"
    ++ flat_map hour_line (range_with_len 11 6)
    ++ codes "RD|I|06|037|1103|44201|1|1|007|087|20240701|18:00|0.070\n"

-- what makes the eight hours those of that extract
abbrev pub three_changes : List ℕ
three_changes =
    codes "RD|D|06|037|1103|44201|1||||20240701|17:00\n"
    ++ codes "RD|U|06|037|1103|44201|1|1|007|087|20240701|10:00|0.072\n"
    ++ codes "RD|I|06|037|1103|44201|1|1|007|087|20240701|18:00|0.070\n"

-- an office after the lines of a body
abbrev pub with_lines : Office → List ℕ → Office
with_lines office body = after_all office (body_lines body)
