-- Small offices, on which the laws work out what is listed.
use Rattle.std.specs.Prelude.{ℕ, ◌+◌, true, List, [], ◌∷◌, ◌++◌, map, filter, nat_lt}
use Rattle.std.specs.List.{range_with_len}
use Rattle.aq_base.specs.Calendar.{day_number, hour_number}
use Rattle.aq_base.specs.declared.monitor.Duration.TheVariants.{Day}
use Rattle.aq_base.specs.declared.monitor.Pollutant.{Pollutant}
use Rattle.aq_base.specs.declared.monitor.Pollutant.TheVariants.{Ozone, Pm25}
use Rattle.aq_base.specs.declared.office.OfficeRecord.TheVariants.{Schedule, Makeup, Event, Concurrence}
use Rattle.aq_rules.specs.Office.Office.{Office}
use Rattle.aq_rules.specs.Office.OfficeExamples.{west, noon, fireworks, watched, measured, missed}
use Rattle.aq_rules.specs.Ozone.OzoneExamples.{office_of, reading, registered, run_of, site, smoke, smoke_day, smoke_event, summer_day}
use Rattle.aq_rules.specs.Particles.ParticleExamples.{particle_sample, sampler, smoky_hour, winter_day, with_makeups}
use Rattle.aq_rules.specs.Listed.Completeness.{ListedMonth}
use Rattle.aq_rules.specs.Listed.Flags.{ListedFlag, flag_cells, flags_on}
use Rattle.aq_rules.specs.Shown.Sheet.{row_text}

-- every hour of 2024 has 0.060 ppm
abbrev pub whole_year : Office
whole_year = office_of (registered 1 ∷ []) (run_of 60 [] (hour_number (day_number 2024 1 1) 0) 8784)

-- the smoky day, with its event, of which nothing is said, with an event of another code, and without any
abbrev pub unsaid : Office
unsaid = office_of (registered 1 ∷ smoke_event ∷ []) smoke_day

abbrev pub other_event : Office
other_event =
    office_of
    (registered 1 ∷ Event 1 site Ozone (hour_number summer_day 12) (hour_number summer_day 14) fireworks ∷ Concurrence 1 true ∷ [])
    smoke_day

abbrev pub without_event : Office
without_event = office_of (registered 1 ∷ []) smoke_day

-- an hour with two codes
abbrev pub two_codes : Office
two_codes = office_of (registered 1 ∷ []) (reading 1 71 (smoke ∷ fireworks ∷ []) (hour_number summer_day 9) ∷ [])

-- an hour with both, in an event of the first of them that was concurred in
abbrev pub codes_in_smoke : Office
codes_in_smoke =
    office_of (registered 1 ∷ smoke_event ∷ Concurrence 1 true ∷ []) (reading 1 71 (smoke ∷ fireworks ∷ []) (hour_number summer_day 12) ∷ [])

-- an hour with the codes RZ, RA, R9, R and SA
abbrev pub outer_codes : Office
outer_codes =
    office_of (registered 1 ∷ [])
    (reading 1 71 (map (λ (first, second). record { first = first; second = second }) ((82, 90) ∷ (82, 65) ∷ (82, 57) ∷ (82, 0) ∷ (83, 65) ∷ [])) (hour_number summer_day 12) ∷ [])

-- a sample of 24 hours with a code, and an event from 10:00 to 22:00 of its day
abbrev pub missed_by_its_event : Office
missed_by_its_event =
    office_of
    (sampler Pm25 Day 1 ∷ Event 1 site Pm25 (hour_number winter_day 10) (hour_number winter_day 22) smoke ∷ Concurrence 1 true ∷ [])
    (smoky_hour Pm25 190 (hour_number winter_day 0) ∷ [])

-- the rows of a day of the site whose codes an observation carries
abbrev pub flag_rows : Office → Pollutant → ℕ → List (List ℕ)
flag_rows office pollutant day =
    map (λ (row : ListedFlag). row_text (flag_cells row)) (filter (λ (row : ListedFlag). nat_lt 0 row.flagged) (flags_on office site pollutant day))

-- smoke at noon of a monitor that counts and two hours later of one that does not, and fireworks in between
abbrev pub smoky_noon : Office
smoky_noon =
    watched
    (measured west Ozone 1 100 (smoke ∷ []) noon ∷ measured west Ozone 1 90 (fireworks ∷ []) (noon + 1)
    ∷ measured west Ozone 2 100 (smoke ∷ []) (noon + 2) ∷ [])

-- an excluded hour and a null code of a monitor that counts, and an hour of one that does not
abbrev pub three_slots : Office
three_slots =
    watched (measured west Ozone 1 100 (smoke ∷ []) noon ∷ missed west Ozone 1 (noon + 1) ∷ measured west Ozone 2 50 [] noon ∷ [])

-- every third day from 1 January 2024 on is scheduled, and 2 January has a sample
abbrev pub every_third_day : Office
every_third_day =
    office_of (sampler Pm25 Day 1 ∷ Schedule site Pm25 (day_number 2024 1 1) 3 (day_number 2024 1 1) ∷ [])
    (particle_sample Pm25 1 100 (day_number 2024 1 2) ∷ [])

-- two months, of which the second has nothing due
abbrev pub two_months : List ListedMonth
two_months =
    record { poc = 1; month = 3; counts = record { due = 11; valued = 4; null = 2; missing = 5; extra = 6 } }
    ∷ record { poc = 7; month = 8; counts = record { due = 0; valued = 0; null = 0; missing = 0; extra = 1 } } ∷ []

-- the missed 7 January is made up for on a day of January
abbrev pub made_up_on : ℕ → Office
made_up_on day =
    record with_makeups { records = with_makeups.records ++ Makeup site (day_number 2024 1 7) (day_number 2024 1 day) ∷ [] }

-- every day of 2024 is scheduled, and sampled from 1 January on: 48 days of 10.0, one of 20.0 and one of 30.0, and then so many more of 10.0
abbrev pub fifty_days : ℕ → Office
fifty_days more =
    office_of (sampler Pm25 Day 1 ∷ Schedule site Pm25 (day_number 2024 1 1) 1 (day_number 2024 1 1) ∷ [])
    (map (particle_sample Pm25 1 100) (range_with_len (day_number 2024 1 1) 48)
    ++ particle_sample Pm25 1 200 (day_number 2024 2 18) ∷ particle_sample Pm25 1 300 (day_number 2024 2 19)
    ∷ map (particle_sample Pm25 1 100) (range_with_len (day_number 2024 2 20) more))

-- every day of 2024 but the first is scheduled, and sampled until 20 February: 49 days of 10.0, and one of 20.0. The first of January has 30.0
abbrev pub new_year_besides : Office
new_year_besides =
    office_of (sampler Pm25 Day 1 ∷ Schedule site Pm25 (day_number 2024 1 2) 1 (day_number 2024 1 2) ∷ [])
    (particle_sample Pm25 1 300 (day_number 2024 1 1) ∷ map (particle_sample Pm25 1 100) (range_with_len (day_number 2024 1 2) 49)
    ++ particle_sample Pm25 1 200 (day_number 2024 2 20) ∷ [])
