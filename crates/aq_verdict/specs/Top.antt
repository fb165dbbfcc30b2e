-- The eight greatest values of a year, in eight places.
use Rattle.std.specs.Prelude.{◌≡◌, ℕ, zero, suc, Bool, true, false, ◌&&◌, IsTrue, List, [], ◌∷◌, length, Option, Some, None, ℤ, int_le}

-- the values in the places, up to the first place without one
abbrev pub given : List (Option ℤ) → List ℤ
given [] = []
given (None ∷ places) = []
given (Some value ∷ places) = value ∷ given places

-- so many places with the values in front
unfoldable pub placed : ℕ → List ℤ → List (Option ℤ)
placed zero values = []
placed (suc count) [] = None ∷ placed count []
placed (suc count) (value ∷ values) = Some value ∷ placed count values

-- the second is not above the first; a missing value is the lowest
abbrev pub is_no_higher : Option ℤ → Option ℤ → Bool
is_no_higher above None = true
is_no_higher None (Some value) = false
is_no_higher (Some other) (Some value) = int_le value other

-- no place is above the one before it
abbrev pub descends : List (Option ℤ) → Bool
descends [] = true
descends (place ∷ []) = true
descends (place ∷ next ∷ places) = is_no_higher place next && descends (next ∷ places)

pub record HoldsTop (places : List (Option ℤ)) : Type 0 where
  pub falls : IsTrue (descends places)
  pub rest : places ≡ placed 8 (given places)
  pub eight : length places ≡ 8
