-- Values that join others which fall.
use Rattle.std.specs.Prelude.{Bool, true, false, if◌then◌else◌, List, [], ◌∷◌, Option, Some, None, ℤ, int_lt}
use Rattle.aq_rules.specs.Lists.{ranked_in}

-- the values put into the others, one after another from the last
abbrev pub inserted : List ℤ → List ℤ → List ℤ
inserted [] others = others
inserted (value ∷ values) others = ranked_in value (inserted values others)

-- ---- the same in places: what is lower moves on

-- the value of the place is above the other; a missing value is above none
abbrev pub is_higher : Option ℤ → Option ℤ → Bool
is_higher None value = false
is_higher (Some other) None = true
is_higher (Some other) (Some value) = int_lt value other

abbrev pub higher : Option ℤ → Option ℤ → Option ℤ
higher place value = if is_higher place value then place else value

abbrev pub lower : Option ℤ → Option ℤ → Option ℤ
lower place value = if is_higher place value then value else place

-- each place keeps the higher of its value and of what moves on from the place above
abbrev pub moved : Option ℤ → Option ℤ → List (Option ℤ) → List (Option ℤ)
moved above value [] = []
moved above value (place ∷ places) = higher place (lower above value) ∷ moved place value places

abbrev pub joined : Option ℤ → List (Option ℤ) → List (Option ℤ)
joined value [] = []
joined value (place ∷ places) = higher place value ∷ moved place value places
