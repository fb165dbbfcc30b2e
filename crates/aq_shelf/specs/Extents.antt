-- The hours of the first and the last of a monitor's observations, each of which stands beside its hour.
use Rattle.std.specs.Prelude.{ℕ, ◌-◌, Option, List, length, option_map, slice_get}
use Rattle.aq_base.specs.declared.observation.Observation.{Observation}

abbrev pub hour_of_item : (ℕ × Observation) → ℕ
hour_of_item item = item.0

abbrev pub first_hour : List (ℕ × Observation) → Option ℕ
first_hour items = option_map hour_of_item (slice_get items 0)

abbrev pub last_hour : List (ℕ × Observation) → Option ℕ
last_hour items = option_map hour_of_item (slice_get items (length items - 1))
