-- What a PM2.5 or PM10 monitor has for the hours of a day, and what the monitors of a site have for a day.
use Rattle.std.specs.Prelude.{◌≡◌, ℕ, ◌*◌, ◌≤◌, ◌==◌, false, if◌then◌else◌, Option, Some, None, List, [], ◌∷◌, length, map, filter_map, sum_by, option_map, option_and_then, ℤ, pos, neg_ℤ, ◌≤ℤ◌}
use Rattle.std.specs.List.{list_any, range_with_len}
use Rattle.std.specs.Option.{option_map_or}
use Rattle.aq_base.specs.Calendar.{hour_number}
use Rattle.aq_base.specs.Decimal.{truncated}
use Rattle.aq_base.specs.Site.{Site}
use Rattle.aq_base.specs.Values.{least_value, greatest_value}
use Rattle.aq_base.specs.declared.monitor.Duration.{Duration}
use Rattle.aq_base.specs.declared.monitor.Duration.TheVariants.{Hour, Day}
use Rattle.aq_base.specs.declared.monitor.MonitorId.{MonitorId}
use Rattle.aq_base.specs.declared.monitor.Pollutant.{Pollutant}
use Rattle.aq_base.specs.declared.monitor.Pollutant.TheVariants.{Ozone, Pm25}
use Rattle.aq_base.specs.declared.observation.ObsKey.{ObsKey}
use Rattle.aq_base.specs.declared.observation.Observation.{Observation}
use Rattle.aq_base.specs.declared.office.OfficeRecord.{OfficeRecord}
use Rattle.aq_rules.specs.Lists.{total}
use Rattle.aq_rules.specs.Office.Exclusion.{excluded}
use Rattle.aq_rules.specs.Office.Office.{Office, duration_at}
use Rattle.aq_rules.specs.Office.Questions.{poc_above}
use Rattle.aq_rules.specs.Ozone.SiteHour.{Cell}
use Rattle.aq_rules.specs.Particles.ParticleDay.{monitor_day}
use Rattle.aq_registry.specs.Registry.{office_with}
use Rattle.aq_shelf.specs.Standing.{content_at}
use Rattle.aq_series.specs.declared.day_tally.DayTally.{DayTally}

-- a pollutant whose values are of days
abbrev pub IsParticulate : Pollutant → Type 0
IsParticulate Ozone = ⊥
IsParticulate pollutant = Unit {0}

-- a value of PM2.5 or PM10, from -99.9 to 9999.9 µg/m3
abbrev pub IsParticle : ℤ → Type 0
IsParticle value = (least_value ≤ℤ value) × (value ≤ℤ greatest_value Pm25)

-- ---- the hours of a monitor

abbrev pub key_at : MonitorId → ℕ → ObsKey
key_at monitor hour = record { monitor = monitor; hour = hour }

-- the cell of what stands at a key, if there is a value
abbrev pub cell_of : List OfficeRecord → ObsKey → Observation → Option Cell
cell_of records key content =
    option_map (λ value. record { value = value; excluded = excluded records key content.quals }) content.value

-- what a monitor has for the sample that starts at an hour
abbrev pub cell_at : List OfficeRecord → List (ObsKey × Observation) → MonitorId → ℕ → Option Cell
cell_at records rows monitor hour = option_and_then (cell_of records (key_at monitor hour)) (content_at (key_at monitor hour) rows)

-- what it has for some hours
abbrev pub cells_in : List OfficeRecord → List (ObsKey × Observation) → MonitorId → List ℕ → List Cell
cells_in records rows monitor hours = filter_map (cell_at records rows monitor) hours

unfoldable pub hours_of : ℕ → List ℕ
hours_of day = range_with_len (hour_number day 0) 24

-- ---- the monitors of a site

abbrev pub monitor_at : Site → Pollutant → ℕ → MonitorId
monitor_at site pollutant poc = record { site = site; pollutant = pollutant; poc = poc }

-- the registered POCs above the given one, in rising order
abbrev pub pocs_after : List OfficeRecord → Site → Pollutant → ℕ → List ℕ
pocs_after records site pollutant after = filter_map (poc_above site pollutant after) records

-- all of them
abbrev pub pocs_of : List OfficeRecord → Site → Pollutant → List ℕ
pocs_of records site pollutant = pocs_after records site pollutant 0

-- what the monitors of these POCs have for a day
abbrev pub cells_on : Office → Site → Pollutant → ℕ → List ℕ → List Cell
cells_on office site pollutant day pocs = filter_map (λ poc. monitor_day office (monitor_at site pollutant poc) day) pocs

-- the mean of cells, truncated, and excluded if one of them is
abbrev pub mean_of : List Cell → Option Cell
mean_of [] = None
mean_of (first ∷ others) =
    Some (record {
      value = truncated (total (map (λ (c : Cell). c.value) (first ∷ others))) (pos (length (first ∷ others)));
      excluded = list_any (λ (c : Cell). c.excluded) (first ∷ others);
    })

-- ---- steps

-- a monitor's day takes a step for each of its 24 hours, or one if its samples last a day
abbrev pub steps_by : Duration → ℕ
steps_by Hour = 24
steps_by Day = 1

-- and none if it is not registered
abbrev pub monitor_steps : List OfficeRecord → MonitorId → ℕ
monitor_steps records monitor = option_map_or steps_by (duration_at (office_with records) monitor) 0

-- the steps of all monitors of a site and pollutant
abbrev pub site_steps : List OfficeRecord → Site → Pollutant → ℕ
site_steps records site pollutant = sum_by (λ poc. monitor_steps records (monitor_at site pollutant poc)) (pocs_of records site pollutant)

-- those of a monitor, unless it is the primary
abbrev pub steps_beside : List OfficeRecord → Site → Pollutant → Option ℕ → ℕ → ℕ
steps_beside records site pollutant primary poc =
    if option_map_or (λ other. poc == other) primary false then 0 else monitor_steps records (monitor_at site pollutant poc)

-- ---- tallies

-- the tally of cells
pub record IsTallyOf (cells : List Cell) (tally : DayTally) : Type 0 where
  pub count : tally.count ≡ length cells
  pub sum : tally.sum ≡ total (map (λ (c : Cell). c.value) cells)
  pub excluded : tally.excluded ≡ list_any (λ (c : Cell). c.excluded) cells

-- at most 24 values of PM2.5 or PM10
pub record IsOfParticles (tally : DayTally) : Type 0 where
  pub few : tally.count ≤ 24
  pub low : neg_ℤ (pos (999 * tally.count)) ≤ℤ tally.sum
  pub high : tally.sum ≤ℤ pos (99999 * tally.count)
