-- Short lists.
use Rattle.std.proofs.Common.{◌≡◌, List, [], ◌∷◌, length, get_or, refl, arith}
use Rattle.std.specs.Prelude.{All, Option, ℤ}
use Rattle.std.specs.List.{slice_index_or}
use Rattle.std.proofs.lemmas.List.Elements.{All-cons, All-nil}
use Rattle.aq_verdict.specs.Inserted.{higher, lower, joined}

-- four things that each keep P
pub all-four : {X : Type 0} (P : X → Type 0) (xs : List X) (a b c d : X) → length xs ≡ 4
    → P (slice_index_or xs 0 a) → P (slice_index_or xs 1 b) → P (slice_index_or xs 2 c) → P (slice_index_or xs 3 d) → All P xs
all-four P (x ∷ y ∷ z ∷ w ∷ []) a b c d four h0 h1 h2 h3 =
    All-cons P x (y ∷ z ∷ w ∷ []) h0 (All-cons P y (z ∷ w ∷ []) h1 (All-cons P z (w ∷ []) h2 (All-cons P w [] h3 (All-nil P))))
all-four P [] a b c d four h0 h1 h2 h3 = absurd (omega (arith, four))
all-four P (x ∷ []) a b c d four h0 h1 h2 h3 = absurd (omega (arith, four))
all-four P (x ∷ y ∷ []) a b c d four h0 h1 h2 h3 = absurd (omega (arith, four))
all-four P (x ∷ y ∷ z ∷ []) a b c d four h0 h1 h2 h3 = absurd (omega (arith, four))
all-four P (x ∷ y ∷ z ∷ w ∷ v ∷ xs) a b c d four h0 h1 h2 h3 = absurd (omega (arith, four))

-- eight places, one by one
pub joined-eight : (v : Option ℤ) (xs : List (Option ℤ)) (a b c d e f g h : Option ℤ) → length xs ≡ 8
    → higher (get_or xs 0 a) v ∷ higher (get_or xs 1 b) (lower (get_or xs 0 a) v) ∷ higher (get_or xs 2 c) (lower (get_or xs 1 b) v)
    ∷ higher (get_or xs 3 d) (lower (get_or xs 2 c) v) ∷ higher (get_or xs 4 e) (lower (get_or xs 3 d) v) ∷ higher (get_or xs 5 f) (lower (get_or xs 4 e) v)
    ∷ higher (get_or xs 6 g) (lower (get_or xs 5 f) v) ∷ higher (get_or xs 7 h) (lower (get_or xs 6 g) v) ∷ [] ≡ joined v xs
joined-eight v (x ∷ y ∷ z ∷ w ∷ x1 ∷ y1 ∷ z1 ∷ w1 ∷ []) a b c d e f g h eight = refl
joined-eight v [] a b c d e f g h eight = absurd (omega (arith, eight))
joined-eight v (x ∷ []) a b c d e f g h eight = absurd (omega (arith, eight))
joined-eight v (x ∷ y ∷ []) a b c d e f g h eight = absurd (omega (arith, eight))
joined-eight v (x ∷ y ∷ z ∷ []) a b c d e f g h eight = absurd (omega (arith, eight))
joined-eight v (x ∷ y ∷ z ∷ w ∷ []) a b c d e f g h eight = absurd (omega (arith, eight))
joined-eight v (x ∷ y ∷ z ∷ w ∷ x1 ∷ []) a b c d e f g h eight = absurd (omega (arith, eight))
joined-eight v (x ∷ y ∷ z ∷ w ∷ x1 ∷ y1 ∷ []) a b c d e f g h eight = absurd (omega (arith, eight))
joined-eight v (x ∷ y ∷ z ∷ w ∷ x1 ∷ y1 ∷ z1 ∷ []) a b c d e f g h eight = absurd (omega (arith, eight))
joined-eight v (x ∷ y ∷ z ∷ w ∷ x1 ∷ y1 ∷ z1 ∷ w1 ∷ v1 ∷ xs) a b c d e f g h eight = absurd (omega (arith, eight))
