-- Values that fall: the place of a value among them, and the first eight of a bag.
use Rattle.std.specs.Prelude.{ℕ, suc, if◌then◌else◌, List, [], ◌∷◌, map, Option, ℤ, int_lt, slice_get}
use Rattle.std.specs.List.{range_with_len}
use Rattle.aq_rules.specs.Lists.{ranked}

-- how many values from the front on are above the value
abbrev pub place_of : ℤ → List ℤ → ℕ
place_of value [] = 0
place_of value (other ∷ others) = if int_lt value other then suc (place_of value others) else 0

-- the eight greatest values downwards, equal ones each, in eight places, of which the last are empty if there are fewer
abbrev pub top_eight : List ℤ → List (Option ℤ)
top_eight bag = map (slice_get (ranked bag)) (range_with_len 0 8)
