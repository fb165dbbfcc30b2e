-- The first of ranked values is the greatest.
use Rattle.std.proofs.Common.{◌≡◌, Bool, true, false, cond, List, [], ◌∷◌, refl, sym, ap, ◌∙◌, arith}
use Rattle.std.specs.Prelude.{ℤ, int_lt, Some, slice_get}
use Rattle.std.specs.Int.{int_max}
use Rattle.std.proofs.lemmas.Int.{ints}
use Rattle.aq_rules.specs.Lists.{ranked, ranked_in, greatest}
use Rattle.aq_rules.proofs.Sums.{greater_of, greatest-some}

max_below : (x y : ℤ) → int_lt x y ≡ true → int_max x y ≡ y
max_below x y h = grind (arith, ints)

max_above : (x y : ℤ) → int_lt x y ≡ false → int_max x y ≡ x
max_above x y h = grind (arith, ints)

first-by : (x y : ℤ) (ys : List ℤ) (b : Bool) → int_lt x y ≡ b
    → slice_get (cond b (y ∷ ranked_in x ys) (x ∷ y ∷ ys)) 0 ≡ greater_of (Some x) (Some y)
first-by x y ys true is = ap (λ (z : ℤ). Some z) (sym (max_below x y is))
first-by x y ys false is = ap (λ (z : ℤ). Some z) (sym (max_above x y is))

first-in : (x : ℤ) (ys : List ℤ) → slice_get (ranked_in x ys) 0 ≡ greater_of (Some x) (slice_get ys 0)
first-in x [] = refl
first-in x (y ∷ ys) = first-by x y ys (int_lt x y) refl

pub first-ranked : (bag : List ℤ) → slice_get (ranked bag) 0 ≡ greatest bag
unfolding ranked
first-ranked [] = refl
first-ranked (x ∷ bag) = first-in x (ranked bag) ∙ ap (greater_of (Some x)) (first-ranked bag) ∙ sym (greatest-some x bag)
