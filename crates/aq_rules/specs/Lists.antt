-- Sums, least and greatest values, ranked values and latest records of plain lists.
use Rattle.std.specs.Prelude.{ℕ, nat_lt, if◌then◌else◌, List, [], ◌∷◌, fold, Option, Some, None, option_map, ℤ, pos, ◌+ℤ◌, int_lt}
use Rattle.std.specs.Int.{int_min, int_max}

-- the sum
abbrev pub total : List ℤ → ℤ
total values = fold (λ sum value. sum +ℤ value) (pos 0) values

-- the greatest value, if there is one
abbrev pub greater : Option ℤ → ℤ → Option ℤ
greater None value = Some value
greater (Some other) value = Some (int_max other value)

abbrev pub greatest : List ℤ → Option ℤ
greatest values = fold greater None values

-- the least value, if there is one
abbrev pub lesser : Option ℤ → ℤ → Option ℤ
lesser None value = Some value
lesser (Some other) value = Some (int_min other value)

abbrev pub least : List ℤ → Option ℤ
least values = fold lesser None values

-- all, or nothing if one is missing
abbrev pub all_of : {X : Type 0} → List (Option X) → Option (List X)
all_of [] = Some []
all_of (None ∷ xs) = None
all_of (Some x ∷ xs) = option_map (λ others. x ∷ others) (all_of xs)

-- the value put into a list that falls, before the first one that is not above it
abbrev pub ranked_in : ℤ → List ℤ → List ℤ
ranked_in value [] = value ∷ []
ranked_in value (other ∷ others) = if int_lt value other then other ∷ ranked_in value others else value ∷ other ∷ others

-- the values sorted downwards, equal ones each
unfoldable pub ranked : List ℤ → List ℤ
ranked [] = []
ranked (value ∷ values) = ranked_in value (ranked values)

-- of two records, the one with the later day; at one day the second
abbrev pub later : {X : Type 0} → (X → ℕ) → Option X → X → Option X
later day None record_now = Some record_now
later day (Some before) record_now = Some (if nat_lt (day record_now) (day before) then before else record_now)

-- the record with the greatest day, if there is a record
abbrev pub latest : {X : Type 0} → (X → ℕ) → List X → Option X
latest day records = fold (later day) None records
