-- What the monitors of a site have for an hour, one by one in the order of their POCs.
use Rattle.std.specs.Prelude.{◌≡◌, ℕ, ◌*◌, ◌≤◌, if◌then◌else◌, Option, None, List, length, map, filter_map, option_map, option_and_then, ℤ, pos, neg_ℤ, ◌≤ℤ◌, IfSome}
use Rattle.std.specs.List.{list_any, AllByRecursion}
use Rattle.aq_base.specs.Site.{Site}
use Rattle.aq_base.specs.Values.{least_value, greatest_value}
use Rattle.aq_base.specs.declared.monitor.Pollutant.TheVariants.{Ozone}
use Rattle.aq_base.specs.declared.observation.ObsKey.{ObsKey}
use Rattle.aq_base.specs.declared.observation.Observation.{Observation}
use Rattle.aq_base.specs.declared.office.OfficeRecord.{OfficeRecord}
use Rattle.aq_rules.specs.Lists.{total}
use Rattle.aq_rules.specs.Office.Exclusion.{excluded}
use Rattle.aq_rules.specs.Office.Monitors.{is_eligible}
use Rattle.aq_rules.specs.Office.Questions.{poc_above}
use Rattle.aq_rules.specs.Ozone.SiteHour.{Cell, Sample}
use Rattle.aq_shelf.specs.Standing.{content_at}
use Rattle.aq_series.specs.declared.tally.Tally.{Tally}

-- a value of ozone, from -0.999 to 9.999 ppm
abbrev pub IsOzone : ℤ → Type 0
IsOzone value = (least_value ≤ℤ value) × (value ≤ℤ greatest_value Ozone)

-- their values, if hours have some, are ozone's
abbrev pub AreOzone : List (Option Cell) → Type 0
AreOzone hours = AllByRecursion (λ hour. IfSome hour (λ (cell : Cell). IsOzone cell.value)) hours

-- the cell of what stands at a key, if there is a value
abbrev pub cell_of : List OfficeRecord → ObsKey → Observation → Option Cell
cell_of records key content =
    option_map (λ value. record { value = value; excluded = excluded records key content.quals }) content.value

-- what a monitor has for an hour, if its values count
abbrev pub cell_at : List OfficeRecord → List (ObsKey × Observation) → ObsKey → Option Cell
cell_at records rows key =
    if is_eligible records key.monitor then option_and_then (cell_of records key) (content_at key rows) else None

-- the key of a site's ozone monitor and an hour
abbrev pub ozone_key : Site → ℕ → ℕ → ObsKey
ozone_key site hour poc = record { monitor = record { site = site; pollutant = Ozone; poc = poc }; hour = hour }

-- the same as the sample of a POC
abbrev pub sample_at : List OfficeRecord → List (ObsKey × Observation) → Site → ℕ → ℕ → Option Sample
sample_at records rows site hour poc =
    option_map (λ cell. record { poc = poc; cell = cell }) (cell_at records rows (ozone_key site hour poc))

-- the site's registered ozone POCs above the given one, in rising order
abbrev pub pocs_above : List OfficeRecord → Site → ℕ → List ℕ
pocs_above records site after = filter_map (poc_above site Ozone after) records

-- what they have for the hour
abbrev pub samples_above : List OfficeRecord → List (ObsKey × Observation) → Site → ℕ → ℕ → List Sample
samples_above records rows site hour after = filter_map (sample_at records rows site hour) (pocs_above records site after)

-- the tally of samples
pub record IsTally (samples : List Sample) (tally : Tally) : Type 0 where
  pub count : tally.count ≡ length samples
  pub sum : tally.sum ≡ total (map (λ (s : Sample). s.cell.value) samples)
  pub excluded : tally.excluded ≡ list_any (λ (s : Sample). s.cell.excluded) samples

-- at most eight values of ozone
pub record IsOfEight (tally : Tally) : Type 0 where
  pub few : tally.count ≤ 8
  pub low : neg_ℤ (pos (999 * tally.count)) ≤ℤ tally.sum
  pub high : tally.sum ≤ℤ pos (9999 * tally.count)
