-- The days of the first and the last of a monitor's rows, and how many it has.
use Rattle.std.proofs.Common.{◌≡◌, ℕ, ◌-◌, ◌≤◌, Option, Some, None, List, [], ◌∷◌, length, map, refl, ap, ◌∙◌, arith}
use Rattle.std.specs.Prelude.{filter, option_map, slice_get}
use Rattle.std.proofs.lemmas.List.{length-map}
use Rattle.std.proofs.lemmas.Option.{slice_get-map}
use Rattle.aq_base.specs.declared.limits.TheConstants.{MOST_OBSERVATIONS}
use Rattle.aq_base.specs.declared.monitor.MonitorId.{MonitorId}
use Rattle.aq_base.specs.declared.observation.ObsKey.{ObsKey}
use Rattle.aq_base.specs.declared.observation.Observation.{Observation}
use Rattle.aq_rules.specs.Listed.Monitors.{day_of_row}
use Rattle.aq_rules.proofs.Pm10Facts.{length-filter-le}
use Rattle.aq_shelf.specs.Standing.{IsShelf, hour_content, in_span, observations_in}
use Rattle.aq_listed.specs.MonitorDays.{day_of_item, first_day, last_day}

pub first_row : (rows : List (ObsKey × Observation)) → first_day (map hour_content rows) ≡ option_map day_of_row (slice_get rows 0)
first_row [] = refl
first_row (row ∷ rows) = refl

composed : (o : Option (ObsKey × Observation)) → option_map day_of_item (option_map hour_content o) ≡ option_map day_of_row o
composed None = refl
composed (Some row) = refl

pub last_row : (rows : List (ObsKey × Observation)) → last_day (map hour_content rows) ≡ option_map day_of_row (slice_get rows (length rows - 1))
last_row rows =
    ap (λ n. option_map day_of_item (slice_get (map hour_content rows) (n - 1))) (length-map rows hour_content)
    ∙ ap (option_map day_of_item) (slice_get-map hour_content rows (length rows - 1))
    ∙ composed (slice_get rows (length rows - 1))

-- few observations are of one monitor
pub few_in_span : (monitor : MonitorId) (from hours : ℕ) (rows : List (ObsKey × Observation)) → IsShelf rows → length (observations_in monitor from hours rows) ≤ MOST_OBSERVATIONS
few_in_span monitor from hours rows shelf =
    let same = length-map (filter (in_span monitor from hours) rows) hour_content in
    omega (arith, same, length-filter-le (in_span monitor from hours) rows, shelf.few)
