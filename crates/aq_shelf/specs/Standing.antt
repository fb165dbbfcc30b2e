-- The standing observations in the words of the book of rules: what stands at a key, what a span is, and what holds of every shelf.
use Rattle.std.specs.Prelude.{◌≡◌, ℕ, ◌+◌, ◌<◌, ◌≤◌, Bool, true, false, ◌&&◌, nat_le, nat_lt, if◌then◌else◌, IsTrue, Option, None, List, length, map, filter, option_map, IsSome}
use Rattle.std.specs.List.{AllByRecursion}
use Rattle.aq_base.specs.Values.{HasValueInRange}
use Rattle.aq_base.specs.declared.day.TheConstants.{LAST_HOUR}
use Rattle.aq_base.specs.declared.monitor.MonitorId.{MonitorId}
use Rattle.aq_base.specs.declared.observation.ObsKey.{ObsKey}
use Rattle.aq_base.specs.declared.observation.Observation.{Observation}
use Rattle.aq_rules.specs.Limits.{MOST_OBSERVATIONS}
use Rattle.aq_rules.specs.Office.Monitors.{is_same_monitor, is_same_key}
use Rattle.aq_rules.specs.Office.Office.{content_of, observation_numbers, observation_rank, row_at, rises}
use Rattle.aq_shelf.specs.declared.fault.ShelfFault.{ShelfFault}
use Rattle.aq_shelf.specs.declared.fault.ShelfFault.TheVariants.{AlreadyThere, Full, Memory}

-- what stands at a key: the `observation_at` of an office with these rows
abbrev pub content_at : ObsKey → List (ObsKey × Observation) → Option Observation
content_at key rows = option_map content_of (row_at observation_rank (observation_numbers key) rows)

-- a key has this content now or none, and each other key has what it had
abbrev pub ChangesOnly : ObsKey → Option Observation → List (ObsKey × Observation) → List (ObsKey × Observation) → Type 0
ChangesOnly key content old new =
    (other : ObsKey) → content_at other new ≡ (if is_same_key key other then content else content_at other old)

-- an observation of the monitor that starts in the `hours` hours from `from` on
abbrev pub in_span : MonitorId → ℕ → ℕ → ObsKey × Observation → Bool
in_span monitor from hours row =
    is_same_monitor row.0.monitor monitor && nat_le from row.0.hour && nat_lt row.0.hour (from + hours)

-- an observation's hour and content
abbrev pub hour_content : ObsKey × Observation → ℕ × Observation
hour_content row = (row.0.hour, row.1)

-- the monitor's observations that start in these hours, in order
abbrev pub observations_in : MonitorId → ℕ → ℕ → List (ObsKey × Observation) → List (ℕ × Observation)
observations_in monitor from hours rows = map hour_content (filter (in_span monitor from hours) rows)

-- the hour is one of the profile, and the value is in range
abbrev pub IsStanding : ObsKey × Observation → Type 0
IsStanding row = (row.0.hour ≤ LAST_HOUR) × HasValueInRange row.0.monitor.pollutant row.1

-- what holds of the observations of every shelf
pub record IsShelf (rows : List (ObsKey × Observation)) : Type 0 where
  pub rising : IsTrue (rises observation_rank rows)
  pub few : length rows ≤ MOST_OBSERVATIONS
  pub standing : AllByRecursion IsStanding rows

-- when an observation is not put among the others
abbrev pub IsInsertFault : ShelfFault → ObsKey → List (ObsKey × Observation) → Type 0
IsInsertFault AlreadyThere key rows = IsSome (content_at key rows)
IsInsertFault Full key rows = (content_at key rows ≡ None) × (length rows ≡ MOST_OBSERVATIONS)
IsInsertFault Memory key rows = (content_at key rows ≡ None) × (length rows < MOST_OBSERVATIONS)

-- the same if `found` is what stands at the key, and the shelf is full or not
abbrev pub IsPutFault : ShelfFault → Bool → Option Observation → Type 0
IsPutFault AlreadyThere full found = IsSome found
IsPutFault Full full found = (found ≡ None) × (full ≡ true)
IsPutFault Memory full found = (found ≡ None) × (full ≡ false)
