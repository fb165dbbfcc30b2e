-- Places in the ranked list: how many values are above the one at a place, and how many are it or above.
use Rattle.std.proofs.Common.{◌≡◌, ℕ, zero, suc, ◌+◌, ◌<◌, ◌≤◌, Bool, true, false, cond, List, [], ◌∷◌, length, get_or, refl, sym, ap, ◌∙◌, add-one, suc-add, arith}
use Rattle.std.specs.Prelude.{ℤ, int_lt, int_le, ⊤, Some, slice_get}
use Rattle.std.specs.List.{count_by}
use Rattle.std.proofs.lemmas.List.Sorted.{sum_by-IsPermutation, length_permutation}
use Rattle.std.proofs.lemmas.List.Sums.{sum_by-cons, sum_by-le-sum_by}
use Rattle.std.proofs.lemmas.Int.{ints}
use Rattle.aq_rules.specs.Lists.{ranked}
use Rattle.aq_rules.proofs.Ranked.{ranked-moved, ranked-falls}

-- each value is at or below the one before it
abbrev pub IsNext : ℤ → List ℤ → Type 0
IsNext x [] = ⊤
IsNext x (y ∷ ys) = int_lt x y ≡ false

abbrev pub Descends : List ℤ → Type 0
Descends [] = ⊤
Descends (x ∷ xs) = IsNext x xs × Descends xs

descends_from_places : (xs : List ℤ) → ((k : ℕ) (d : ℤ) → k + 1 < length xs → int_lt (get_or xs k d) (get_or xs (k + 1) d) ≡ false) → Descends xs
descends_from_places [] falls = tt
descends_from_places (x ∷ []) falls = (tt, tt)
descends_from_places (x ∷ y ∷ xs) falls =
    (falls 0 x (omega arith), descends_from_places (y ∷ xs) (λ k d within. let one = falls (suc k) d (omega arith) in rw add-one (rw (suc-add, add-one) at one)))

pub ranked-descends : (xs : List ℤ) → Descends (ranked xs)
ranked-descends xs = descends_from_places (ranked xs) (ranked-falls xs)

abbrev pub above : ℤ → List ℤ → ℕ
above p values = count_by (λ v. int_lt p v) values

abbrev pub at_least : ℤ → List ℤ → ℕ
at_least p values = count_by (λ v. int_le p v) values

above-cons : (p x : ℤ) (xs : List ℤ) → above p (x ∷ xs) ≡ cond (int_lt p x) 1 0 + above p xs
above-cons p x xs = sum_by-cons (λ v. cond (int_lt p v) 1 0) x xs

at_least-cons : (p x : ℤ) (xs : List ℤ) → at_least p (x ∷ xs) ≡ cond (int_le p x) 1 0 + at_least p xs
at_least-cons p x xs = sum_by-cons (λ v. cond (int_le p v) 1 0) x xs

not_above_next : (p x y : ℤ) → int_lt p x ≡ false → int_lt x y ≡ false → int_lt p y ≡ false
not_above_next p x y h k = grind (arith, ints)

-- nothing after a value is above what it is not above
none_above : (p x : ℤ) (xs : List ℤ) → int_lt p x ≡ false → Descends (x ∷ xs) → above p xs ≡ 0
none_above p x [] h falls = refl
none_above p x (y ∷ ys) h falls =
    let next : int_lt p y ≡ false = not_above_next p x y h falls.0 in
    above-cons p y ys ∙ rw next (rw (none_above p y ys next falls.1) refl)

not_itself : (p : ℤ) → int_lt p p ≡ false
not_itself p = grind (arith, ints)

itself : (p : ℤ) → int_le p p ≡ true
itself p = grind (arith, ints)

few : (b : Bool) → cond b 1 0 ≤ 1
few true = omega arith
few false = omega arith

some_same : (x p : ℤ) → Some x ≡ Some p → x ≡ p
some_same x p e = cc

pub few_above : (xs : List ℤ) (k : ℕ) (p : ℤ) → Descends xs → slice_get xs k ≡ Some p → above p xs ≤ k
few_above [] k p falls at = cc
few_above (x ∷ xs) zero p falls at =
    let e : p ≡ x = sym (some_same x p at) in
    let none : above x (x ∷ xs) ≡ 0 = above-cons x x xs ∙ rw (not_itself x) (rw (none_above x x xs (not_itself x) falls) refl) in
    let same : above p (x ∷ xs) ≡ above x (x ∷ xs) = ap (λ (z : ℤ). above z (x ∷ xs)) e in
    omega (arith, none, same)
few_above (x ∷ xs) (suc k) p falls at =
    let rest = few_above xs k p falls.1 at in
    omega (arith, above-cons p x xs, few (int_lt p x), rest)

le_from_next : (p x y : ℤ) → int_le p y ≡ true → int_lt x y ≡ false → int_le p x ≡ true
le_from_next p x y h k = grind (arith, ints)

-- a value further on is at or below the first
first_at_least : (x : ℤ) (xs : List ℤ) (k : ℕ) (p : ℤ) → Descends (x ∷ xs) → slice_get xs k ≡ Some p → int_le p x ≡ true
first_at_least x [] k p falls at = cc
first_at_least x (y ∷ ys) zero p falls at =
    let e : p ≡ y = sym (some_same y p at) in le_from_next p x y (rw e (itself y)) falls.0
first_at_least x (y ∷ ys) (suc k) p falls at = le_from_next p x y (first_at_least y ys k p falls.1 at) falls.0

counts_one : (b : Bool) → b ≡ true → 1 ≤ cond b 1 0
counts_one true h = omega arith
counts_one false h = cc

pub many_at_least : (xs : List ℤ) (k : ℕ) (p : ℤ) → Descends xs → slice_get xs k ≡ Some p → k + 1 ≤ at_least p xs
many_at_least [] k p falls at = cc
many_at_least (x ∷ xs) zero p falls at =
    let e : p ≡ x = sym (some_same x p at) in
    let one = counts_one (int_le p x) (rw e (itself x)) in
    omega (arith, at_least-cons p x xs, one)
many_at_least (x ∷ xs) (suc k) p falls at =
    let rest = many_at_least xs k p falls.1 at in
    let one = counts_one (int_le p x) (first_at_least x xs k p falls at) in
    omega (arith, at_least-cons p x xs, one, rest)

-- counts of a list and of the ranked list
pub above-ranked : (p : ℤ) (xs : List ℤ) → above p (ranked xs) ≡ above p xs
above-ranked p xs = sum_by-IsPermutation (λ v. cond (int_lt p v) 1 0) xs (ranked xs) (ranked-moved xs)

pub at_least-ranked : (p : ℤ) (xs : List ℤ) → at_least p (ranked xs) ≡ at_least p xs
at_least-ranked p xs = sum_by-IsPermutation (λ v. cond (int_le p v) 1 0) xs (ranked xs) (ranked-moved xs)

pub length-ranked : (xs : List ℤ) → length (ranked xs) ≡ length xs
length-ranked xs = length_permutation xs (ranked xs) (ranked-moved xs)

-- a higher value has no more values at or above it than the lower one has above it
higher : (p q v : ℤ) → int_lt p q ≡ true → cond (int_le q v) 1 0 ≤ cond (int_lt p v) 1 0
higher p q v h = by_cases (int_le q v) (int_lt p v) refl refl
  where
    by_cases : (a b : Bool) → int_le q v ≡ a → int_lt p v ≡ b → cond a 1 0 ≤ cond b 1 0
    by_cases true true e f = omega arith
    by_cases true false e f = absurd (grind (arith, ints))
    by_cases false b e f = omega arith

pub fewer : (p q : ℤ) (xs : List ℤ) → int_lt p q ≡ true → at_least q xs ≤ above p xs
fewer p q xs h = sum_by-le-sum_by (λ v. cond (int_le q v) 1 0) (λ v. cond (int_lt p v) 1 0) xs (λ v. higher p q v h)

trichotomy : (p q : ℤ) (a b : Bool) → int_lt p q ≡ a → int_lt q p ≡ b → (a ≡ true → ⊥) → (b ≡ true → ⊥) → p ≡ q
trichotomy p q true b e f h k = absurd (h refl)
trichotomy p q false true e f h k = absurd (k refl)
trichotomy p q false false e f h k = grind (arith, ints)

-- two values with the same rank among the same values are one
pub one_value : (p q : ℤ) (xs : List ℤ) (rank : ℕ) → above p xs < rank → rank ≤ at_least p xs → above q xs < rank → rank ≤ at_least q xs → p ≡ q
one_value p q xs rank few_p many_p few_q many_q =
    trichotomy p q (int_lt p q) (int_lt q p) refl refl
    (λ lower. let h = fewer p q xs lower in omega arith)
    (λ lower. let h = fewer q p xs lower in omega arith)
