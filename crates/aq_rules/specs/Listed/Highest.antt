-- The ten highest days of a year of a site and pollutant: the values that its standard ranks (40 CFR Part 50, Appendix U, 4(b), and Appendix N, 4.5; the columns are (own)).
use Rattle.std.specs.Prelude.{ℕ, ◌==◌, if◌then◌else◌, Bool, List, [], ◌∷◌, ◌++◌, length, map, filter_map, find, take, codes, Option, Some, None, option_map, ℤ, int_lt}
use Rattle.std.specs.List.{enumerate_from}
use Rattle.std.specs.Option.{option_eq}
use Rattle.std.specs.Ordering.{int_eq}
use Rattle.aq_base.specs.Site.{Site}
use Rattle.aq_base.specs.declared.monitor.Pollutant.{Pollutant}
use Rattle.aq_base.specs.declared.monitor.Pollutant.TheVariants.{Ozone, Pm25, Pm10}
use Rattle.aq_rules.specs.Office.Office.{Office}
use Rattle.aq_rules.specs.Ozone.EightHour.{WindowRow}
use Rattle.aq_rules.specs.Ozone.OzoneDay.{windows, ozone_day}
use Rattle.aq_rules.specs.Ozone.OzoneYear.{days_of, ranked_maximum}
use Rattle.aq_rules.specs.Particles.ParticleDay.{net_day}
use Rattle.aq_rules.specs.Particles.Percentile.{rank_of}
use Rattle.aq_rules.specs.Particles.QuarterCounts.{pm25_year, counted_in}
use Rattle.aq_rules.specs.Listed.Daily.{series_heads}
use Rattle.aq_rules.specs.Shown.Sheet.{SheetCell, Head, Sheet, head_of, count_cell, ppm_cell, tenths_cell, day_text, hour_text}
use Rattle.aq_rules.specs.Shown.Sheet.SheetCell.{Text, Missing}

-- ---- ranked days

-- a day that is ranked, by its value
pub record RankedDay : Type 0 where
  pub day : ℕ
  pub value : ℤ

-- a day put into a list that falls, before the first one that is not above it: so of two equal ones the earlier stands first
abbrev pub day_ranked_in : RankedDay → List RankedDay → List RankedDay
day_ranked_in row [] = row ∷ []
day_ranked_in row (other ∷ others) = if int_lt row.value other.value then other ∷ day_ranked_in row others else row ∷ other ∷ others

-- the greatest value first, of equal ones the earlier day
unfoldable pub days_ranked : List RankedDay → List RankedDay
days_ranked [] = []
days_ranked (row ∷ rows) = day_ranked_in row (days_ranked rows)

-- what the standard ranks of a day: the maximum of a valid day of ozone, and the value of a day of the particles that is not excluded
abbrev pub ranked_value : Office → Site → Pollutant → ℕ → Option ℤ
ranked_value office site Ozone day = ranked_maximum (ozone_day office site day)
ranked_value office site Pm25 day = net_day office site Pm25 day
ranked_value office site Pm10 day = net_day office site Pm10 day

abbrev pub ranked_day : Office → Site → Pollutant → ℕ → Option RankedDay
ranked_day office site pollutant day =
    option_map (λ value. record { day = day; value = value }) (ranked_value office site pollutant day)

unfoldable pub ranked_days : Office → Site → Pollutant → ℕ → List RankedDay
ranked_days office site pollutant year = days_ranked (filter_map (ranked_day office site pollutant) (days_of year))

-- the rank that the standard takes: the fourth of ozone, that of the 98th percentile of PM2.5 if a sample is counted, and none of PM10
abbrev pub deciding_pm25 : ℕ → Option ℕ
deciding_pm25 counted = if counted == 0 then None else Some (rank_of counted)

unfoldable pub deciding_rank : Office → Site → Pollutant → ℕ → Option ℕ
deciding_rank office site Ozone year = Some 4
deciding_rank office site Pm25 year = deciding_pm25 (counted_in (pm25_year office site year))
deciding_rank office site Pm10 year = None

-- ---- where the maximum of a day of ozone comes from

-- the hour of the day at which an average starts, and its number of net hours
pub record MaximumAt : Type 0 where
  pub hour : ℕ
  pub hours : ℕ

abbrev pub is_net : ℤ → (ℕ × WindowRow) → Bool
is_net value row = option_eq int_eq row.1.net (Some value)

abbrev pub maximum_at : ℕ × WindowRow → MaximumAt
maximum_at row = record { hour = row.0; hours = row.1.net_hours }

-- the earliest start from 07:00 on at which the net average is the value
unfoldable pub first_at : Office → Site → ℕ → ℤ → Option MaximumAt
first_at office site day value = option_map maximum_at (find (is_net value) (enumerate_from 7 (windows office site day)))

-- ---- the sheet

abbrev pub TEN : ℕ
TEN = 10

abbrev pub number_cell : Option ℕ → SheetCell
number_cell None = Missing
number_cell (Some n) = count_cell n

-- how many are ranked, and the rank that decides
abbrev pub highest_heads : Site → Pollutant → ℕ → ℕ → Option ℕ → List Head
highest_heads site pollutant year ranked decides =
    series_heads site pollutant year ++ head_of (codes "ranked") (count_cell ranked) ∷ head_of (codes "decides") (number_cell decides) ∷ []

abbrev pub place_cells : Option MaximumAt → List SheetCell
place_cells None = Missing ∷ Missing ∷ []
place_cells (Some at) = Text (hour_text at.hour) ∷ count_cell at.hours ∷ []

-- a day of ozone by its rank, with the start of its maximum
abbrev pub ozone_cells : ℕ × (RankedDay × Option MaximumAt) → List SheetCell
ozone_cells row = count_cell row.0 ∷ Text (day_text row.1.0.day) ∷ ppm_cell (Some row.1.0.value) ∷ place_cells row.1.1

abbrev pub particle_cells : ℕ × RankedDay → List SheetCell
particle_cells row = count_cell row.0 ∷ Text (day_text row.1.day) ∷ tenths_cell (Some row.1.value) ∷ []

-- at most ten days
unfoldable pub highest_ozone_sheet : Site → ℕ → ℕ → Option ℕ → List (RankedDay × Option MaximumAt) → Sheet
highest_ozone_sheet site year ranked decides rows = record {
  heads = highest_heads site Ozone year ranked decides;
  columns = codes "rank" ∷ codes "day" ∷ codes "value" ∷ codes "hour" ∷ codes "hours" ∷ [];
  rows = map ozone_cells (enumerate_from 1 rows);
}

unfoldable pub highest_particles_sheet : Site → Pollutant → ℕ → ℕ → Option ℕ → List RankedDay → Sheet
highest_particles_sheet site pollutant year ranked decides rows = record {
  heads = highest_heads site pollutant year ranked decides;
  columns = codes "rank" ∷ codes "day" ∷ codes "value" ∷ [];
  rows = map particle_cells (enumerate_from 1 rows);
}

abbrev pub with_start : Office → Site → RankedDay → RankedDay × Option MaximumAt
with_start office site row = (row, first_at office site row.day row.value)

-- of the ranked days of a year
abbrev pub highest_of : Office → Site → Pollutant → ℕ → List RankedDay → Sheet
highest_of office site Ozone year rows =
    highest_ozone_sheet site year (length rows) (deciding_rank office site Ozone year) (map (with_start office site) (take TEN rows))
highest_of office site pollutant year rows =
    highest_particles_sheet site pollutant year (length rows) (deciding_rank office site pollutant year) (take TEN rows)

unfoldable pub highest_answer : Office → Site → Pollutant → ℕ → Sheet
highest_answer office site pollutant year = highest_of office site pollutant year (ranked_days office site pollutant year)
