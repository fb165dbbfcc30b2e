-- Numbers of rows that are in a range, and what words say as far as it fits.
use Rattle.std.specs.Prelude.{ℕ, Bool, ◌&&◌, nat_le, if◌then◌else◌, Option, Some, None, List, [], ◌∷◌, ◌++◌, ℤ}
use Rattle.aq_rules.specs.Lines.Spellings.{◌>>=◌}
use Rattle.aq_rules.specs.Kept.Rows.{whole, only_if}

-- a whole number from a first to a last one
abbrev pub is_between : ℕ → ℕ → ℕ → Bool
is_between first last n = nat_le first n && nat_le n last

abbrev pub between : ℕ → ℕ → ℤ → Option ℕ
between first last number = whole number >>= only_if (is_between first last)

-- what some words say after what others said, if all of it fits at each word
abbrev pub gathered : {X : Type 0} → (List ℕ → Option X) → (List X → Bool) → List X → List (List ℕ) → Option (List X)
gathered read fits xs [] = Some xs
gathered read fits xs (word ∷ words) =
    read word >>= (λ x. if fits (xs ++ x ∷ []) then gathered read fits (xs ++ x ∷ []) words else None)
