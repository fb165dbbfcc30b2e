-- Small offices, quarters and years of particles, on which the laws work the rules out.
use Rattle.std.specs.Prelude.{ℕ, ◌+◌, ◌*◌, true, false, List, [], ◌∷◌, ◌++◌, map, replicate, codes, Some, None, pos, neg_ℤ}
use Rattle.std.specs.List.{range_with_len}
use Rattle.aq_base.specs.Calendar.{day_number, hour_number, quarter_number}
use Rattle.aq_base.specs.declared.monitor.Duration.{Duration}
use Rattle.aq_base.specs.declared.monitor.Duration.TheVariants.{Hour, Day}
use Rattle.aq_base.specs.declared.monitor.MonitorId.{MonitorId}
use Rattle.aq_base.specs.declared.monitor.Pollutant.{Pollutant}
use Rattle.aq_base.specs.declared.monitor.Pollutant.TheVariants.{Pm25, Pm10}
use Rattle.aq_base.specs.declared.observation.ObsKey.{ObsKey}
use Rattle.aq_base.specs.declared.observation.Observation.{Observation}
use Rattle.aq_base.specs.declared.office.OfficeRecord.{OfficeRecord}
use Rattle.aq_base.specs.declared.office.OfficeRecord.TheVariants.{Monitor, Primary, Schedule, Makeup as MakeupRecord, Event, Concurrence}
use Rattle.aq_base.specs.declared.reply.LoadReply.{LoadReply}
use Rattle.aq_base.specs.declared.rule.Rule.TheVariants.{AlreadyThere, ParameterOutOfProfile}
use Rattle.aq_rules.specs.Office.Office.{Office, StoredLoad}
use Rattle.aq_rules.specs.Shown.Sheet.{Sheet, head_of, site_text}
use Rattle.aq_rules.specs.Shown.Sheet.SheetCell.{Int, Fixed, Text, Missing}
use Rattle.aq_rules.specs.Particles.QuarterCounts.{Makeup, QuarterCounts, QuarterDays}
use Rattle.aq_rules.specs.Particles.Pm10Estimate.{Pm10Quarter}
use Rattle.aq_rules.specs.Kept.Rows.{Row, OfOfficeRow, OfLoadRow, OfSecondRow, office_row, obs_row}
use Rattle.aq_rules.specs.Ozone.OzoneExamples.{site, office_of, smoke}

-- ---- monitors and samples

abbrev pub particle_id : Pollutant → ℕ → MonitorId
particle_id pollutant poc = record { site = site; pollutant = pollutant; poc = poc }

abbrev pub sampler : Pollutant → Duration → ℕ → OfficeRecord
sampler pollutant duration poc = Monitor (particle_id pollutant poc) duration true

-- a value in tenths that starts at an hour
abbrev pub particle_hour : Pollutant → ℕ → ℕ → ℕ → (ObsKey × Observation)
particle_hour pollutant poc value hour =
    (record { monitor = particle_id pollutant poc; hour = hour }, record { value = Some (pos value); null = None; quals = []; method = None })

-- a sample of 24 hours
abbrev pub particle_sample : Pollutant → ℕ → ℕ → ℕ → (ObsKey × Observation)
particle_sample pollutant poc value day = particle_hour pollutant poc value (hour_number day 0)

abbrev pub winter_day : ℕ
winter_day = day_number 2024 1 7

-- an hourly monitor with a first value and so many others of 50.1
abbrev pub hourly : Pollutant → ℕ → ℕ → Office
hourly pollutant first others =
    office_of (sampler pollutant Hour 1 ∷ [])
    (particle_hour pollutant 1 first (hour_number winter_day 0) ∷ map (particle_hour pollutant 1 501) (range_with_len (hour_number winter_day 1) others))

-- an hour with the code of an event that was concurred in
abbrev pub smoky_hour : Pollutant → ℕ → ℕ → (ObsKey × Observation)
smoky_hour pollutant value hour =
    (record { monitor = particle_id pollutant 1; hour = hour }, record { value = Some (pos value); null = None; quals = smoke ∷ []; method = None })

abbrev pub smoke_record : Pollutant → ℕ → ℕ → List OfficeRecord
smoke_record pollutant first last = Event 1 site pollutant (hour_number first 0) (hour_number last 23) smoke ∷ Concurrence 1 true ∷ []

-- eighteen hours from 00:00 on, of which the last is excluded
abbrev pub smoky_evening : Pollutant → Office
smoky_evening pollutant =
    office_of (sampler pollutant Hour 1 ∷ smoke_record pollutant winter_day winter_day)
    (map (particle_hour pollutant 1 100) (range_with_len (hour_number winter_day 0) 17) ++ smoky_hour pollutant 190 (hour_number winter_day 17) ∷ [])

-- a sample of 24 hours with the code of an event that was concurred in, which lasts from an hour of the day to its end
abbrev pub smoky_sample : Pollutant → ℕ → Office
smoky_sample pollutant first =
    office_of
    (sampler pollutant Day 1 ∷ Event 1 site pollutant (hour_number winter_day first) (hour_number winter_day 23) smoke ∷ Concurrence 1 true ∷ [])
    (smoky_hour pollutant 190 (hour_number winter_day 0) ∷ [])

-- a monitor of 24 hours that is not eligible, POC 2, with a sample beside one of POC 3
abbrev pub with_ineligible : Pollutant → Office
with_ineligible pollutant =
    office_of (Monitor (particle_id pollutant 2) Day false ∷ sampler pollutant Day 3 ∷ [])
    (particle_sample pollutant 2 120 winter_day ∷ particle_sample pollutant 3 123 winter_day ∷ [])

-- three monitors of 24 hours, of which POC 1 has no sample, POC 2 has 12.0 and POC 3 has 12.3
abbrev pub three_samplers : Pollutant → List OfficeRecord → Office
three_samplers pollutant designations =
    office_of (sampler pollutant Day 1 ∷ sampler pollutant Day 2 ∷ sampler pollutant Day 3 ∷ designations)
    (particle_sample pollutant 2 120 winter_day ∷ particle_sample pollutant 3 123 winter_day ∷ [])

abbrev pub primary_of : Pollutant → ℕ → OfficeRecord
primary_of pollutant poc = Primary site pollutant 0 poc

-- ---- make-up samples: every sixth day from 1 January 2024 on; 7 January is missed

abbrev pub makeup_on : ℕ → Makeup
makeup_on day = record { missed = day_number 2024 1 7; makeup = day_number 2024 1 day }

-- samples on four days, if every so manyth day is scheduled
abbrev pub makeups_every : ℕ → Office
makeups_every interval =
    office_of (sampler Pm25 Day 1 ∷ Schedule site Pm25 (day_number 2024 1 1) interval (day_number 2024 1 1) ∷ [])
    (map (λ day. particle_sample Pm25 1 100 (day_number 2024 1 day)) (9 ∷ 12 ∷ 13 ∷ 14 ∷ []))

abbrev pub with_makeups : Office
with_makeups = makeups_every 6

-- samples on four days: the second makes up for 7 January, and the last is excluded
abbrev pub sampled_quarter : Office
sampled_quarter =
    office_of
    (sampler Pm25 Day 1 ∷ Schedule site Pm25 (day_number 2024 1 1) 6 (day_number 2024 1 1)
    ∷ MakeupRecord site (day_number 2024 1 7) (day_number 2024 1 9)
    ∷ Event 1 site Pm25 (hour_number (day_number 2024 1 19) 0) (hour_number (day_number 2024 1 19) 23) smoke ∷ Concurrence 1 true ∷ [])
    (map (λ day. particle_sample Pm25 1 100 (day_number 2024 1 day)) (1 ∷ 9 ∷ 13 ∷ [])
    ++ (record { monitor = particle_id Pm25 1; hour = hour_number (day_number 2024 1 19) 0 }, record { value = Some (pos 100); null = None; quals = smoke ∷ []; method = None }) ∷ [])

-- ---- quarters and years of PM2.5: scheduled days, samples (all creditable and counted) and their values in tenths

abbrev pub quarter_with : ℕ → ℕ → List ℕ → QuarterDays
quarter_with scheduled samples values =
    record { counts = record { scheduled = scheduled; creditable = samples; counted = samples }; values = map pos values }

-- so many days of one value, if not all samples are counted, and some days are not scheduled
abbrev pub mixed_quarter : ℕ → ℕ → ℕ → ℕ → ℕ → QuarterDays
mixed_quarter scheduled creditable counted days value =
    record { counts = record { scheduled = scheduled; creditable = creditable; counted = counted }; values = replicate days (pos value) }

-- so many samples of one value
abbrev pub even_quarter : ℕ → ℕ → ℕ → QuarterDays
even_quarter scheduled samples value = quarter_with scheduled samples (replicate samples value)

abbrev pub even_year : QuarterDays → List QuarterDays
even_year quarter = replicate 4 quarter

-- quarters that differ in their scheduled days
abbrev pub year_from : ℕ → List QuarterDays
year_from scheduled = map (λ part. mixed_quarter (scheduled + part) 3 2 4 100) (0 ∷ 1 ∷ 2 ∷ 3 ∷ [])

-- thirty samples whose sum is so much above thirty times a value
abbrev pub quarter_above : ℕ → ℕ → QuarterDays
quarter_above value tenths = quarter_with 30 30 ((value + tenths) ∷ replicate 29 value)

abbrev pub year_above : ℕ → ℕ → List QuarterDays
year_above value tenths = replicate 4 (quarter_above value tenths)

-- every day at 11.2, but so many of the 90 days of the first quarter
abbrev pub daily_year : ℕ → List QuarterDays
daily_year first = even_quarter 90 first 112 ∷ even_quarter 91 91 112 ∷ even_quarter 92 92 112 ∷ even_quarter 92 92 112 ∷ []

-- quarters of 30 scheduled days at one value, but the second one as given
abbrev pub year_with_second : ℕ → QuarterDays → List QuarterDays
year_with_second value second = even_quarter 30 30 value ∷ second ∷ even_quarter 30 30 value ∷ even_quarter 30 30 value ∷ []

-- one day of a lower value among thirty
abbrev pub with_low_day : ℕ → ℕ → QuarterDays
with_low_day value low = quarter_with 30 30 (low ∷ replicate 29 value)

-- three years at 10.0, but the second quarter of the second year has one day of 9.5, and that of the third year has ten samples
abbrev pub three_years_at_ten : List (List QuarterDays)
three_years_at_ten = even_year (even_quarter 30 30 100) ∷ year_with_second 100 (with_low_day 100 95) ∷ year_with_second 100 (even_quarter 30 10 100) ∷ []

-- a year with this 98th percentile, which is the third of its 120 values
abbrev pub year_of_percentile : ℕ → List QuarterDays
year_of_percentile value =
    even_quarter 30 30 100 ∷ quarter_with 30 30 (value ∷ value ∷ value ∷ replicate 27 100) ∷ even_quarter 30 30 100 ∷ even_quarter 30 30 100 ∷ []

-- the same with another first quarter, of 10.0 throughout
abbrev pub year_with_first : ℕ → ℕ → List QuarterDays
year_with_first scheduled samples =
    even_quarter scheduled samples 100 ∷ quarter_with 30 30 (340 ∷ 340 ∷ 340 ∷ replicate 27 100) ∷ even_quarter 30 30 100 ∷ even_quarter 30 30 100 ∷ []

-- the counts of a year: one sample, which is excluded; and none
abbrev pub no_sample : List QuarterCounts
no_sample = replicate 4 (record { scheduled = 30; creditable = 0; counted = 0 })

abbrev pub one_sample : List QuarterCounts
one_sample = record { scheduled = 30; creditable = 1; counted = 0 } ∷ replicate 3 (record { scheduled = 30; creditable = 0; counted = 0 })

-- 100 counted samples, 11 of 30 missing in the first quarter; the greatest values are 40.0, 35.4 and 33.0
abbrev pub year_of_two_ranks : List QuarterDays
year_of_two_ranks =
    mixed_quarter 30 19 18 20 100 ∷ quarter_with 30 30 (400 ∷ 354 ∷ 330 ∷ replicate 27 100) ∷ even_quarter 30 30 100 ∷ mixed_quarter 30 23 22 24 100 ∷ []

-- ---- PM10: every sixth day with 1 July 2023, and samples on 15 of the 16 scheduled days of that quarter, the first of which exceeds

abbrev pub third_of_2023 : ℕ
third_of_2023 = quarter_number 2023 2

abbrev pub scheduled_samples : List (ObsKey × Observation)
scheduled_samples =
    particle_sample Pm10 1 1550 (day_number 2023 7 1)
    ∷ map (λ k. particle_sample Pm10 1 400 (day_number 2023 7 1 + 6 * k)) (range_with_len 1 14)

abbrev pub with_exceedance : List (ObsKey × Observation) → Office
with_exceedance others =
    office_of (sampler Pm10 Day 1 ∷ Schedule site Pm10 (day_number 2021 1 1) 6 (day_number 2023 7 1) ∷ []) (scheduled_samples ++ others)

-- samples on six scheduled days, of which two are excluded, and on three others; 155.0 and more on 1, 3 and 14 July
abbrev pub mixed_days : Office
mixed_days =
    office_of
    (sampler Pm10 Day 1 ∷ Schedule site Pm10 (day_number 2021 1 1) 6 (day_number 2023 7 1) ∷ smoke_record Pm10 (day_number 2023 7 19) (day_number 2023 7 25))
    (map (λ (day, value). particle_sample Pm10 1 value (day_number 2023 7 day))
    ((1, 1550) ∷ (3, 1600) ∷ (7, 400) ∷ (13, 1549) ∷ (14, 1700) ∷ (31, 410) ∷ (32, 420) ∷ [])
    ++ smoky_hour Pm10 1800 (hour_number (day_number 2023 7 19) 0) ∷ smoky_hour Pm10 1900 (hour_number (day_number 2023 7 25) 0) ∷ [])

-- an estimate of 3.21, and a lower one of 3.00
abbrev pub busy_quarter : Pm10Quarter
busy_quarter = record { calendar_days = 90; scheduled = 30; captured = 29; strata = 28; samples = 33; exceedances = 2; scheduled_exceedances = 1; sixtieths = 60 }

-- so many scheduled days, and so many of them captured
abbrev pub captured_quarter : ℕ → ℕ → Pm10Quarter
captured_quarter scheduled captured =
    record { calendar_days = 92; scheduled = scheduled; captured = captured; strata = 10; samples = 20; exceedances = 3; scheduled_exceedances = 2; sixtieths = 75 }

-- a quarter of 15 scheduled days, all sampled and none exceeding; one without a sample; and one of so many exceedances on other days
abbrev pub calm_quarter : Pm10Quarter
calm_quarter = record { calendar_days = 91; scheduled = 15; captured = 15; strata = 15; samples = 15; exceedances = 0; scheduled_exceedances = 0; sixtieths = 0 }

abbrev pub empty_quarter : Pm10Quarter
empty_quarter = record { calendar_days = 91; scheduled = 15; captured = 0; strata = 0; samples = 0; exceedances = 0; scheduled_exceedances = 0; sixtieths = 0 }

abbrev pub quarter_of_exceedances : ℕ → Pm10Quarter
quarter_of_exceedances n = record { calendar_days = 91; scheduled = 15; captured = 15; strata = 15; samples = 15 + n; exceedances = n; scheduled_exceedances = 0; sixtieths = 30 * n }

abbrev pub calm_year : List Pm10Quarter
calm_year = replicate 4 calm_quarter

-- ---- damaged rows

abbrev pub first_sampler : Row
first_sampler = OfOfficeRow (office_row (sampler Pm25 Day 1))

-- a designation of a monitor that is not registered
abbrev pub stray_designation : Row
stray_designation = OfOfficeRow (office_row (primary_of Pm25 2))

abbrev pub sample_at : ℕ → Row
sample_at hour = OfSecondRow (obs_row (particle_hour Pm25 1 120 (hour_number winter_day hour)))

-- a load without lines
abbrev pub empty_load : ℕ → Row
empty_load number =
    OfLoadRow (record { number = pos number; digest = replicate 32 0; lines = pos 0; accepted = pos 0; listed = []; rest = [] })

-- ---- sheets, rows and exports

abbrev pub exceeding_quarter : Pm10Quarter
exceeding_quarter = record { calendar_days = 92; scheduled = 16; captured = 15; strata = 15; samples = 15; exceedances = 1; scheduled_exceedances = 1; sixtieths = 60 }

abbrev pub reply_without_lines : ℕ → LoadReply
reply_without_lines number = record { number = number; lines = 0; accepted = 0; refused = 0; listed = []; rest = [] }

-- a sheet with a cell of each kind
abbrev pub one_row : Sheet
one_row = record {
  heads = head_of (codes "site") (Text (site_text site)) ∷ [];
  columns = codes "a" ∷ codes "b" ∷ codes "c" ∷ codes "d" ∷ [];
  rows = (Int (neg_ℤ (pos 7)) ∷ Fixed (neg_ℤ (pos 5)) 1 ∷ Text (codes "Met") ∷ Missing ∷ []) ∷ [];
}

-- a monitor with two samples in an event that was concurred in: one with the codes V and RT and the method 145, and one with a null code and without a method
abbrev pub exported : Office
exported =
    office_of
    (sampler Pm25 Day 1 ∷ Event 1 site Pm25 (hour_number winter_day 0) (hour_number winter_day 90) smoke ∷ Concurrence 1 true ∷ [])
    ((record { monitor = particle_id Pm25 1; hour = hour_number winter_day 0 }, record { value = Some (pos 120); null = None; quals = record { first = 86; second = 0 } ∷ smoke ∷ []; method = Some 145 })
    ∷ (record { monitor = particle_id Pm25 1; hour = hour_number (winter_day + 3) 0 }, record { value = None; null = Some (record { first = 65; second = 78 }); quals = smoke ∷ []; method = None })
    ∷ [])

-- a load of three lines, of which two were refused
abbrev pub load_of_three_lines : StoredLoad
load_of_three_lines = record {
  number = 7;
  digest = replicate 32 9;
  reply =
      record { number = 7; lines = 3; accepted = 1; refused = 2; listed = record { line = 2; rule = AlreadyThere } ∷ record { line = 3; rule = ParameterOutOfProfile } ∷ []; rest = [] };
}
