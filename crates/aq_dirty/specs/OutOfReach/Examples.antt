-- An office before and after a small change, on which the laws show what is in reach and what is not.
use Rattle.std.specs.Prelude.{◌+◌, true, [], ◌∷◌, map}
use Rattle.std.specs.List.{range_with_len}
use Rattle.aq_base.specs.declared.monitor.Duration.TheVariants.{Hour, Day}
use Rattle.aq_base.specs.declared.monitor.Pollutant.TheVariants.{Ozone, Pm25, Pm10}
use Rattle.aq_rules.specs.Office.Office.{Office}
use Rattle.aq_rules.specs.Office.OfficeExamples.{west, east, monitor_at, measured, noon, plain_day, sampled}
use Rattle.aq_base.specs.declared.office.OfficeRecord.TheVariants.{Monitor, Schedule, Makeup}

-- an ozone monitor in the west and one in the east, and in the west 0.060 ppm from 12:00 to 19:00 of 1 July 2024
abbrev pub afternoon : Office
afternoon = record {
  records = Monitor (monitor_at west Ozone 1) Hour true ∷ Monitor (monitor_at east Ozone 2) Hour true ∷ [];
  observations = map (measured west Ozone 1 60 []) (range_with_len noon 8);
  loads = [];
}

-- the same office after a correction: 0.084 ppm at noon
abbrev pub corrected : Office
corrected = record afternoon { observations = measured west Ozone 1 84 [] noon ∷ map (measured west Ozone 1 60 []) (range_with_len (noon + 1) 7) }

-- a PM10 and a PM2.5 sampler in the west, each with a sample on 1 July 2024
abbrev pub samplers : Office
samplers = record {
  records = Monitor (monitor_at west Pm10 3) Day true ∷ Monitor (monitor_at west Pm25 4) Day true ∷ [];
  observations = sampled west Pm25 4 120 plain_day ∷ sampled west Pm10 3 50 plain_day ∷ [];
  loads = [];
}

-- the same office with a second PM2.5 sampler, which has a sample on the next day
abbrev pub joined_by_another : Office
joined_by_another = record {
  records = Monitor (monitor_at west Pm10 3) Day true ∷ Monitor (monitor_at west Pm25 4) Day true ∷ Monitor (monitor_at west Pm25 5) Day true ∷ [];
  observations = sampled west Pm25 4 120 plain_day ∷ sampled west Pm25 5 300 (plain_day + 1) ∷ sampled west Pm10 3 50 plain_day ∷ [];
  loads = [];
}

-- a PM10 and a PM2.5 sampler in the west, with a sample on every sixth day from 1 July 2024 on. That of 1 July was taken, of PM2.5 too; that of 7 July was missed, and PM2.5 has a sample on 9 July
abbrev pub scheduled : Office
scheduled = record {
  records =
      Monitor (monitor_at west Pm10 3) Day true ∷ Monitor (monitor_at west Pm25 4) Day true
      ∷ Schedule west Pm10 plain_day 6 plain_day ∷ Schedule west Pm25 plain_day 6 plain_day ∷ [];
  observations = sampled west Pm25 4 120 plain_day ∷ sampled west Pm25 4 130 (plain_day + 8) ∷ sampled west Pm10 3 50 plain_day ∷ [];
  loads = [];
}

-- the same office with a record that the sample of 9 July makes up for 7 July
abbrev pub made_up : Office
made_up = record scheduled {
  records =
      Monitor (monitor_at west Pm10 3) Day true ∷ Monitor (monitor_at west Pm25 4) Day true
      ∷ Schedule west Pm10 plain_day 6 plain_day ∷ Schedule west Pm25 plain_day 6 plain_day ∷ Makeup west (plain_day + 6) (plain_day + 8) ∷ [];
}

-- the same office after a correction: 30.0 µg/m3 of PM2.5 on 9 July
abbrev pub corrected_sample : Office
corrected_sample = record scheduled { observations = sampled west Pm25 4 120 plain_day ∷ sampled west Pm25 4 300 (plain_day + 8) ∷ sampled west Pm10 3 50 plain_day ∷ [] }

-- a PM10 sampler in the west with a sample on every sixth day from 1 July 2024 on, and on again from 1 January 2025: 5.0 µg/m3 on 1 July and 160.0 on 8 July
abbrev pub every_sixth : Office
every_sixth = record {
  records = Monitor (monitor_at west Pm10 3) Day true ∷ Schedule west Pm10 plain_day 6 plain_day ∷ Schedule west Pm10 (plain_day + 184) 6 (plain_day + 184) ∷ [];
  observations = sampled west Pm10 3 50 plain_day ∷ sampled west Pm10 3 1600 (plain_day + 7) ∷ [];
  loads = [];
}

-- the same office after a correction: 170.0 µg/m3 on 1 July
abbrev pub corrected_pm10 : Office
corrected_pm10 = record every_sixth { observations = sampled west Pm10 3 1700 plain_day ∷ sampled west Pm10 3 1600 (plain_day + 7) ∷ [] }

-- the same office with a schedule more, of every third day from 1 October to 31 December 2024
abbrev pub every_third : Office
every_third = record every_sixth {
  records =
      Monitor (monitor_at west Pm10 3) Day true
      ∷ Schedule west Pm10 plain_day 6 plain_day ∷ Schedule west Pm10 (plain_day + 92) 3 (plain_day + 92) ∷ Schedule west Pm10 (plain_day + 184) 6 (plain_day + 184) ∷ [];
}
