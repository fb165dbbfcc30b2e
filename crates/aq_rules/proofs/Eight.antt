-- The eight greatest values are enough for the eight greatest of more values, and for the ranks up to the eighth.
use Rattle.std.proofs.Common.{◌≡◌, ℕ, zero, suc, ◌-◌, ◌<◌, ◌≤◌, true, false, cond, List, [], ◌∷◌, ◌++◌, take, refl, sym, ap, ◌∙◌, arith}
use Rattle.std.specs.Prelude.{ℤ, int_lt, Option, None, slice_get, ◌==◌}
use Rattle.std.proofs.lemmas.List.{take-take}
use Rattle.std.proofs.lemmas.List.Sorted.{IsPermutation-append_comm}
use Rattle.aq_rules.specs.Lists.{ranked, ranked_in}
use Rattle.aq_rules.specs.Particles.Percentile.{percentile, rank_of}
use Rattle.aq_rules.specs.Kept.Summaries.{eight_greatest}
use Rattle.aq_rules.proofs.Ranked.{ranked-in_any_order}
use Rattle.aq_rules.proofs.Descent.{IsNext, Descends, ranked-descends}

-- ---- a front of a list that descends is its own ranked list

ranked_in-next : (x : ℤ) (xs : List ℤ) → IsNext x xs → ranked_in x xs ≡ x ∷ xs
ranked_in-next x [] next = refl
ranked_in-next x (y ∷ ys) next = rw next refl

pub ranked-itself : (xs : List ℤ) → Descends xs → ranked xs ≡ xs
unfolding ranked
ranked-itself [] falls = refl
ranked-itself (x ∷ xs) falls = ap (ranked_in x) (ranked-itself xs falls.1) ∙ ranked_in-next x xs falls.0

next-take : (n : ℕ) (x : ℤ) (xs : List ℤ) → IsNext x xs → IsNext x (take n xs)
next-take zero x xs next = tt
next-take (suc n) x [] next = tt
next-take (suc n) x (y ∷ ys) next = next

pub descends-take : (n : ℕ) (xs : List ℤ) → Descends xs → Descends (take n xs)
descends-take zero xs falls = tt
descends-take (suc n) [] falls = tt
descends-take (suc n) (x ∷ xs) falls = (next-take n x xs falls.0, descends-take n xs falls.1)

-- ---- what stands after the first n does not count for the first n

behind : (n : ℕ) (y : ℤ) (ys : List ℤ) → take n (y ∷ take n ys) ≡ take n (y ∷ ys)
behind zero y ys = refl
behind (suc n) y ys = ap (λ (l : List ℤ). y ∷ l) (take-take n (suc n) ys (omega arith))

pub ranked_in-front : (n : ℕ) (a : ℤ) (ys : List ℤ) → take n (ranked_in a (take n ys)) ≡ take n (ranked_in a ys)
ranked_in-front zero a ys = refl
ranked_in-front (suc n) a [] = refl
ranked_in-front (suc n) a (y ∷ ys) =
    elim (int_lt a y) as (λ b. take (suc n) (cond b (y ∷ ranked_in a (take n ys)) (a ∷ y ∷ take n ys)) ≡ take (suc n) (cond b (y ∷ ranked_in a ys) (a ∷ y ∷ ys))) [
      | true ↦ ap (λ (l : List ℤ). y ∷ l) (ranked_in-front n a ys)
      | false ↦ ap (λ (l : List ℤ). a ∷ l) (behind n y ys)
    ]

front-before : (n : ℕ) (more ys : List ℤ) → Descends ys → take n (ranked (more ++ take n ys)) ≡ take n (ranked (more ++ ys))
unfolding ranked
front-before n [] ys falls =
    ap (take n) (ranked-itself (take n ys) (descends-take n ys falls)) ∙ take-take n n ys (omega arith) ∙ sym (ap (take n) (ranked-itself ys falls))
front-before n (a ∷ more) ys falls =
    sym (ranked_in-front n a (ranked (more ++ take n ys)))
    ∙ ap (λ (l : List ℤ). take n (ranked_in a l)) (front-before n more ys falls) ∙ ranked_in-front n a (ranked (more ++ ys))

ranked-moved_behind : (xs more : List ℤ) → ranked (xs ++ more) ≡ ranked (more ++ xs)
ranked-moved_behind xs more = ranked-in_any_order (xs ++ more) (more ++ xs) (IsPermutation-append_comm xs more)

-- the ranked list of more values and of the ranked ones
ranked-behind : (more xs : List ℤ) → ranked (more ++ ranked xs) ≡ ranked (more ++ xs)
unfolding ranked
ranked-behind [] xs = ranked-itself (ranked xs) (ranked-descends xs)
ranked-behind (a ∷ more) xs = ap (ranked_in a) (ranked-behind more xs)

pub eight-more : (xs more : List ℤ) → eight_greatest (eight_greatest xs ++ more) ≡ eight_greatest (xs ++ more)
eight-more xs more =
    ap (take 8) (ranked-moved_behind (eight_greatest xs) more)
    ∙ front-before 8 more (ranked xs) (ranked-descends xs) ∙ ap (take 8) (ranked-behind more xs ∙ sym (ranked-moved_behind xs more))

-- ---- ranks up to the eighth

pub slice_get-front : (n k : ℕ) (xs : List ℤ) → k < n → slice_get (take n xs) k ≡ slice_get xs k
slice_get-front zero k xs low = absurd (omega arith)
slice_get-front (suc n) k [] low = refl
slice_get-front (suc n) zero (x ∷ xs) low = refl
slice_get-front (suc n) (suc k) (x ∷ xs) low = slice_get-front n k xs (omega arith)

pub percentile-eight : (xs : List ℤ) (counted : ℕ) → counted ≤ 400 → percentile (eight_greatest xs) counted ≡ percentile xs counted
percentile-eight xs counted few =
    ap (λ (o : Option ℤ). cond (counted == 0) None o)
    (ap (λ (l : List ℤ). slice_get l (rank_of counted - 1)) (ranked-itself (eight_greatest xs) (descends-take 8 (ranked xs) (ranked-descends xs)))
    ∙ slice_get-front 8 (rank_of counted - 1) (ranked xs) (omega arith))
