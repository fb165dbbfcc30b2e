-- The hours of some days, and what one more monitor changes in the state of each.
use Rattle.std.specs.Prelude.{◌≡◌, ℕ, ◌+◌, ◌*◌, ◌<◌, ◌==◌, nat_le, if◌then◌else◌, Bool, true, false, Option, Some, None, List, [], ◌∷◌, ◌++◌, map}
use Rattle.std.specs.List.{range_with_len}
use Rattle.std.specs.Option.{option_and_then, option_eq}
use Rattle.aq_base.specs.Site.{Site}
use Rattle.aq_base.specs.declared.day.TheConstants.{LAST_DAY, LAST_HOUR}
use Rattle.aq_base.specs.declared.monitor.MonitorId.{MonitorId}
use Rattle.aq_base.specs.declared.monitor.Pollutant.TheVariants.{Ozone}
use Rattle.aq_base.specs.declared.observation.ObsKey.{ObsKey}
use Rattle.aq_base.specs.declared.observation.Observation.{Observation}
use Rattle.aq_base.specs.declared.office.OfficeRecord.{OfficeRecord}
use Rattle.aq_rules.specs.Office.Designation.{primary_on}
use Rattle.aq_rules.specs.Office.Office.{Office}
use Rattle.aq_rules.specs.Ozone.SiteHour.{Cell, Sample, site_hour}
use Rattle.aq_shelf.specs.Standing.{content_at}
use Rattle.aq_series.specs.Samples.{cell_of, IsOfEight, IsTally}
use Rattle.aq_series.specs.declared.day_hours.HourState.{HourState}

-- what a site has for an hour, and none past the profile
abbrev pub hour_at : Office → Site → ℕ → Option Cell
hour_at office site hour = if nat_le hour LAST_HOUR then site_hour office site hour else None

-- what it has for the hours of eight calendar days
unfoldable pub site_hours : Office → Site → ℕ → List (Option Cell)
site_hours office site day = map (hour_at office site) (range_with_len (24 * day) 192)

-- the primary of a day, and none past the profile
abbrev pub primary_in : List OfficeRecord → Site → ℕ → Option ℕ
primary_in records site day = if nat_le day LAST_DAY then primary_on records site Ozone day else None

-- a monitor's key for an hour after the first one of a day
abbrev pub standing_at : MonitorId → ℕ → ℕ → ObsKey
standing_at monitor day k = record { monitor = monitor; hour = 24 * day + k }

-- the cell of what stands at a key
abbrev pub stood_at : List OfficeRecord → List (ObsKey × Observation) → ObsKey → Option Cell
stood_at records rows key = option_and_then (cell_of records key) (content_at key rows)

-- the state of no values, for an hour with this primary
pub record IsUnread (primary : Option ℕ) (state : HourState) : Type 0 where
  pub primary_is : state.primary ≡ primary
  pub unsettled : state.is_settled ≡ false
  pub tally : IsTally [] state.values
  pub eight : IsOfEight state.values

-- room for one more value
abbrev pub HasRoom : HourState → Type 0
HasRoom state = IsOfEight state.values × (state.values.count < 8)

-- whether a POC is that of the hour's primary
abbrev pub is_primary : HourState → ℕ → Bool
is_primary state poc = option_eq (λ m n. m == n) state.primary (Some poc)

-- a state with one more monitor's value
pub record AddsValue (poc : ℕ) (cell : Cell) (old new : HourState) : Type 0 where
  pub eight : IsOfEight new.values
  pub kept : new.primary ≡ old.primary
  pub settled : old.is_settled ≡ true → new ≡ old
  pub found : old.is_settled ≡ false → is_primary old poc ≡ true → new.is_settled ≡ true
  pub alone : old.is_settled ≡ false → is_primary old poc ≡ true → IsTally (record { poc = poc; cell = cell } ∷ []) new.values
  pub unsettled : old.is_settled ≡ false → is_primary old poc ≡ false → new.is_settled ≡ false
  pub count : old.is_settled ≡ false → is_primary old poc ≡ false → new.values.count ≡ old.values.count + 1
  pub more : old.is_settled ≡ false → is_primary old poc ≡ false → (before : List Sample) → IsTally before old.values → IsTally (before ++ record { poc = poc; cell = cell } ∷ []) new.values

-- a state with what one more monitor has
abbrev pub Adds : ℕ → Option Cell → HourState → HourState → Type 0
Adds poc None old new = new ≡ old
Adds poc (Some cell) old new = AddsValue poc cell old new
