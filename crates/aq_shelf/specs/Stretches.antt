-- How the shelf keeps its rows: by stretches of a monitor's hours, the latest stretch first.
use Rattle.std.specs.Prelude.{◌≡◌, ℕ, Option, Some, None, ◌/◌, Bool, ◌&&◌, nat_le, nat_lt, IsTrue, List, [], ◌∷◌, ◌++◌, map, filter}
use Rattle.std.specs.List.{AllByRecursion}
use Rattle.std.specs.declared.cmp.Reverse.{Reverse}
use Rattle.aq_base.specs.declared.monitor.MonitorId.{MonitorId}
use Rattle.aq_base.specs.declared.observation.ObsKey.{ObsKey}
use Rattle.aq_base.specs.declared.observation.Observation.{Observation}
use Rattle.aq_rules.specs.Office.Office.{observation_rank, rises}
use Rattle.aq_shelf.specs.declared.stretch.Stretch.{Stretch}
use Rattle.aq_shelf.specs.declared.stretch.TheConstants.{STRETCH_HOURS}

-- the stretch that a key's hour lies in
abbrev pub stretch_of : ObsKey → Stretch
stretch_of key = record { monitor = key.monitor; number = key.hour / STRETCH_HOURS }

-- a monitor's hours as rows
abbrev pub rows_of : MonitorId → List (ℕ × Observation) → List (ObsKey × Observation)
rows_of monitor hours = map (λ h. (record { monitor = monitor; hour = h.0 }, h.1)) hours

-- the same of a monitor that is known once there are hours
abbrev pub rows_under : Option MonitorId → List (ℕ × Observation) → List (ObsKey × Observation)
rows_under None hours = []
rows_under (Some monitor) hours = rows_of monitor hours

-- a stretch's rows
abbrev pub rows_in : Reverse Stretch × List (ℕ × Observation) → List (ObsKey × Observation)
rows_in stretch = rows_of stretch.0.0.monitor stretch.1

-- the rows of all stretches, of which the latest comes first
abbrev pub joined : List (Reverse Stretch × List (ℕ × Observation)) → List (ObsKey × Observation)
joined [] = []
joined (stretch ∷ earlier) = joined earlier ++ rows_in stretch

-- each row of a stretch lies in it
abbrev pub LieIn : Stretch → List (ObsKey × Observation) → Type 0
LieIn stretch rows = AllByRecursion (λ row. stretch_of row.0 ≡ stretch) rows

-- what holds of the stretches of every shelf
pub record AreStretches (stretches : List (Reverse Stretch × List (ℕ × Observation))) : Type 0 where
  pub apart : AllByRecursion (λ stretch. LieIn stretch.0.0 (rows_in stretch)) stretches
  pub rising : IsTrue (rises observation_rank (joined stretches))

-- an hour from `from` on and before `end`
abbrev pub between : ℕ → ℕ → ℕ × Observation → Bool
between from end hour = nat_le from hour.0 && nat_lt hour.0 end

-- the hours of all stretches, of which the latest comes first, from `from` on and before `end`
abbrev pub hours_between : ℕ → ℕ → List (Reverse Stretch × List (ℕ × Observation)) → List (ℕ × Observation)
hours_between from end [] = []
hours_between from end (stretch ∷ earlier) = hours_between from end earlier ++ filter (between from end) stretch.1
