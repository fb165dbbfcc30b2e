-- Counts of the items of a list that pass a filter.
use Rattle.std.proofs.Common.{◌≡◌, ◌≤◌, ◌+◌, ℕ, Bool, true, false, ◌&&◌, List, [], ◌∷◌, cond, count_by, filter, refl, ap, sym, ◌∙◌, arith}
use Rattle.aq_listed.proofs.Counted.{count-cons}

-- those of a filter that pass a test
pub count-both : {X : Type 0} (p g : X → Bool) (xs : List X) → count_by p (filter g xs) ≡ count_by (λ x. g x && p x) xs
count-both p g [] = refl
count-both p g (x ∷ xs) = by (g x) (count-both p g xs) ∙ sym (count-cons (λ y. g y && p y) x xs)
  where
    ahead : (n : ℕ) → n ≡ 0 + n
    ahead n = omega arith

    by : (b : Bool) → count_by p (filter g xs) ≡ count_by (λ y. g y && p y) xs
        → count_by p (cond b (x ∷ filter g xs) (filter g xs)) ≡ cond (b && p x) 1 0 + count_by (λ y. g y && p y) xs
    by true rest = count-cons p x (filter g xs) ∙ ap (λ n. cond (p x) 1 0 + n) rest
    by false rest = rest ∙ ahead (count_by (λ y. g y && p y) xs)

-- a filter has no more of what passes a test
pub count-fewer : {X : Type 0} (p g : X → Bool) (xs : List X) → count_by p (filter g xs) ≤ count_by p xs
count-fewer p g [] = omega arith
count-fewer p g (x ∷ xs) = by (g x) (count-fewer p g xs)
  where
    by : (b : Bool) → count_by p (filter g xs) ≤ count_by p xs → count_by p (cond b (x ∷ filter g xs) (filter g xs)) ≤ count_by p (x ∷ xs)
    by true rest = omega (arith, count-cons p x (filter g xs), count-cons p x xs)
    by false rest = omega (arith, count-cons p x xs)
