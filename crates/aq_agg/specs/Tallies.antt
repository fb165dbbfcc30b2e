-- The bag under a key of a tally.
use Rattle.std.specs.Prelude.{◌≡◌, ◌≢◌, List, [], Option, Some, None}
use Rattle.std.specs.Map.{lookup}
use Rattle.std.specs.BTreeMap.{is_at}
use Rattle.std.specs.declared.cmp.Ordering.{Ordering}
use Rattle.std.specs.declared.cmp.Ordering.TheVariants.{Equal}
use Rattle.aq_agg.specs.Bags.{Stays}

-- where nothing is kept the bag is empty
abbrev pub IsKeptOf : {I A : Type 0} → (List I → A → Type 0) → List I → Option A → Type 0
IsKeptOf is_of bag None = bag ≡ []
IsKeptOf is_of bag (Some kept) = is_of bag kept

module _ {I K A : Type 0} (compare : K → K → Ordering) (is_of : List I → A → Type 0) where
  -- this bag is under the key
  abbrev pub BagAt : K → List I → List (K × A) → Type 0
  BagAt key bag entries = IsKeptOf is_of bag (lookup (is_at (compare key)) entries)

  -- the bags under all other keys stay
  abbrev pub OthersStay : K → List (K × A) → List (K × A) → Type 0
  OthersStay key before after = (other : K) → compare other key ≢ Equal → Stays (BagAt other) before after

  -- the bags under all keys stay
  abbrev pub AllStay : List (K × A) → List (K × A) → Type 0
  AllStay before after = (any : K) → Stays (BagAt any) before after
