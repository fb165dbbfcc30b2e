-- The days of the first and the last of a monitor's observations, each of which stands beside its hour.
use Rattle.std.specs.Prelude.{ℕ, ◌-◌, Option, List, length, option_map, slice_get}
use Rattle.aq_base.specs.Calendar.{day_of_hour}
use Rattle.aq_base.specs.declared.observation.Observation.{Observation}

abbrev pub day_of_item : (ℕ × Observation) → ℕ
day_of_item item = day_of_hour item.0

abbrev pub first_day : List (ℕ × Observation) → Option ℕ
first_day items = option_map day_of_item (slice_get items 0)

abbrev pub last_day : List (ℕ × Observation) → Option ℕ
last_day items = option_map day_of_item (slice_get items (length items - 1))
