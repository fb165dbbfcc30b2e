-- The ranked list: it has the values, it falls, and their order does not count.
use Rattle.std.proofs.Common.{◌≡◌, ℕ, zero, suc, ◌+◌, ◌<◌, Bool, true, false, cond, List, [], ◌∷◌, length, get_or, refl, ap, ◌∙◌, add-one, suc-add, arith}
use Rattle.std.specs.List.Sorted.{IsPermutation}
use Rattle.std.specs.Prelude.{ℤ, int_lt, ⊤}
use Rattle.std.proofs.lemmas.List.Sorted.{IsPermutation-refl, IsPermutation-trans, IsPermutation-cons, IsPermutation-middle}
use Rattle.std.proofs.lemmas.Int.{ints}
use Rattle.aq_rules.specs.Lists.{ranked, ranked_in}
use Rattle.aq_rules.proofs.Order.{fold_in_any_order}

same_where_neither : (x y : ℤ) → int_lt x y ≡ false → int_lt y x ≡ false → x ≡ y
same_where_neither x y h k = grind (arith, ints)

not_both : (x y : ℤ) → int_lt x y ≡ true → int_lt y x ≡ true → ⊥
not_both x y h k = grind (arith, ints)

below_what_is_not : (x y z : ℤ) → int_lt x z ≡ true → int_lt y z ≡ false → int_lt x y ≡ true
below_what_is_not x y z h k = grind (arith, ints)

-- two values go before the same list in either order
pair_by : (x y : ℤ) (zs : List ℤ) (p q : Bool) → int_lt x y ≡ p → int_lt y x ≡ q
    → cond p (y ∷ x ∷ zs) (x ∷ y ∷ zs) ≡ cond q (x ∷ y ∷ zs) (y ∷ x ∷ zs)
pair_by x y zs true true h k = absurd (not_both x y h k)
pair_by x y zs true false h k = refl
pair_by x y zs false true h k = refl
pair_by x y zs false false h k = let e = same_where_neither x y h k in cc

ranked_in-step : (x y z : ℤ) (zs : List ℤ) → ranked_in x (ranked_in y zs) ≡ ranked_in y (ranked_in x zs)
    → (p q : Bool) → int_lt x z ≡ p → int_lt y z ≡ q
    → ranked_in x (ranked_in y (z ∷ zs)) ≡ ranked_in y (ranked_in x (z ∷ zs))
ranked_in-step x y z zs e true true h k = rw (h, k) (rw h (ap (λ l. z ∷ l) e))
ranked_in-step x y z zs e true false h k = let f = below_what_is_not x y z h k in rw (h, k) (rw (h, f) refl)
ranked_in-step x y z zs e false true h k = let f = below_what_is_not y x z k h in rw (h, k) (rw (h, f) refl)
ranked_in-step x y z zs e false false h k = rw (h, k) (rw h (pair_by x y (z ∷ zs) (int_lt x y) (int_lt y x) refl refl))

ranked_in-commutes : (x y : ℤ) (zs : List ℤ) → ranked_in x (ranked_in y zs) ≡ ranked_in y (ranked_in x zs)
ranked_in-commutes x y [] = pair_by x y [] (int_lt x y) (int_lt y x) refl refl
ranked_in-commutes x y (z ∷ zs) = ranked_in-step x y z zs (ranked_in-commutes x y zs) (int_lt x z) (int_lt y z) refl refl

pub ranked-in_any_order : (xs ys : List ℤ) → IsPermutation xs ys → ranked xs ≡ ranked ys
unfolding ranked
ranked-in_any_order = fold_in_any_order ranked ranked_in (λ x xs. refl) ranked_in-commutes

-- the ranked list has the values
ranked_in-moved : (x : ℤ) (zs : List ℤ) → IsPermutation (x ∷ zs) (ranked_in x zs)
ranked_in-moved x [] = IsPermutation-refl (x ∷ [])
ranked_in-moved x (z ∷ zs) =
    elim (int_lt x z) as (λ b. IsPermutation (x ∷ z ∷ zs) (cond b (z ∷ ranked_in x zs) (x ∷ z ∷ zs))) [
      | true ↦ IsPermutation-trans (x ∷ z ∷ zs) (z ∷ x ∷ zs) (z ∷ ranked_in x zs) (IsPermutation-middle (x ∷ []) z zs) (IsPermutation-cons z (x ∷ zs) (ranked_in x zs) (ranked_in-moved x zs))
      | false ↦ IsPermutation-refl (x ∷ z ∷ zs)
    ]

pub ranked-moved : (xs : List ℤ) → IsPermutation xs (ranked xs)
unfolding ranked
ranked-moved [] = IsPermutation-refl []
ranked-moved (x ∷ xs) =
    IsPermutation-trans (x ∷ xs) (x ∷ ranked xs) (ranked (x ∷ xs)) (IsPermutation-cons x xs (ranked xs) (ranked-moved xs)) (ranked_in-moved x (ranked xs))

-- no value is below the one after it
abbrev IsTop : ℤ → List ℤ → Type 0
IsTop x [] = ⊤
IsTop x (y ∷ ys) = int_lt x y ≡ false

abbrev Falls : List ℤ → Type 0
Falls [] = ⊤
Falls (x ∷ xs) = IsTop x xs × Falls xs

asymmetric : (x y : ℤ) → int_lt x y ≡ true → int_lt y x ≡ false
asymmetric x y h = grind (arith, ints)

IsTop-ranked_in : (x y : ℤ) (zs : List ℤ) → int_lt y x ≡ false → IsTop y zs → IsTop y (ranked_in x zs)
IsTop-ranked_in x y [] h top = h
IsTop-ranked_in x y (z ∷ zs) h top =
    elim (int_lt x z) as (λ b. IsTop y (cond b (z ∷ ranked_in x zs) (x ∷ z ∷ zs))) [ true ↦ top | false ↦ h ]

Falls-ranked_in_by : (x z : ℤ) (zs : List ℤ) (b : Bool) → int_lt x z ≡ b → Falls (z ∷ zs) → Falls (ranked_in x zs)
    → Falls (cond b (z ∷ ranked_in x zs) (x ∷ z ∷ zs))
Falls-ranked_in_by x z zs true h falls rest = (IsTop-ranked_in x z zs (asymmetric x z h) falls.0, rest)
Falls-ranked_in_by x z zs false h falls rest = (h, falls)

Falls-ranked_in : (x : ℤ) (zs : List ℤ) → Falls zs → Falls (ranked_in x zs)
Falls-ranked_in x [] falls = (tt, tt)
Falls-ranked_in x (z ∷ zs) falls = Falls-ranked_in_by x z zs (int_lt x z) refl falls (Falls-ranked_in x zs falls.1)

Falls-ranked : (xs : List ℤ) → Falls (ranked xs)
unfolding ranked
Falls-ranked [] = tt
Falls-ranked (x ∷ xs) = Falls-ranked_in x (ranked xs) (Falls-ranked xs)

Falls-at : (xs : List ℤ) (k : ℕ) (d : ℤ) → Falls xs → suc k < length xs → int_lt (get_or xs k d) (get_or xs (suc k) d) ≡ false
Falls-at [] k d falls within = absurd (omega arith)
Falls-at (x ∷ []) k d falls within = absurd (omega arith)
Falls-at (x ∷ y ∷ xs) zero d falls within = falls.0
Falls-at (x ∷ y ∷ xs) (suc k) d falls within = Falls-at (y ∷ xs) k d falls.1 (omega arith)

pub ranked-falls : (xs : List ℤ) (k : ℕ) (d : ℤ) → k + 1 < length (ranked xs) → int_lt (get_or (ranked xs) k d) (get_or (ranked xs) (k + 1) d) ≡ false
ranked-falls xs k d within = rw add-one (Falls-at (ranked xs) k d (Falls-ranked xs) (omega arith))

-- the ranked list is the only one: a list that falls is its own ranked list
Falls-from_places : (xs : List ℤ) → ((k : ℕ) (d : ℤ) → k + 1 < length xs → int_lt (get_or xs k d) (get_or xs (k + 1) d) ≡ false) → Falls xs
Falls-from_places [] falls = tt
Falls-from_places (x ∷ []) falls = (tt, tt)
Falls-from_places (x ∷ y ∷ xs) falls =
    (falls 0 x (omega arith), Falls-from_places (y ∷ xs) (λ k d within. let one = falls (suc k) d (omega arith) in rw add-one (rw (suc-add, add-one) at one)))

ranked_in-top : (x : ℤ) (xs : List ℤ) → IsTop x xs → ranked_in x xs ≡ x ∷ xs
ranked_in-top x [] top = refl
ranked_in-top x (y ∷ ys) top = rw top refl

ranked-itself : (xs : List ℤ) → Falls xs → ranked xs ≡ xs
unfolding ranked
ranked-itself [] falls = refl
ranked-itself (x ∷ xs) falls = ap (ranked_in x) (ranked-itself xs falls.1) ∙ ranked_in-top x xs falls.0

pub ranked-only : (xs ys : List ℤ) → IsPermutation xs ys → ((k : ℕ) (d : ℤ) → k + 1 < length ys → int_lt (get_or ys k d) (get_or ys (k + 1) d) ≡ false) → ranked xs ≡ ys
ranked-only xs ys moved falls = ranked-in_any_order xs ys moved ∙ ranked-itself ys (Falls-from_places ys falls)
