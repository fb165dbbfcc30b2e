-- A value put into ranked values at its place, and taken out of it.
use Rattle.std.proofs.Common.{◌≡◌, suc, ◌<◌, Bool, true, false, cond, List, [], ◌∷◌, length, refl, sym, ap, ◌∙◌, arith, subst}
use Rattle.std.specs.Prelude.{ℤ, int_lt}
use Rattle.std.specs.List.{insert, remove}
use Rattle.std.proofs.lemmas.Int.{ints}
use Rattle.aq_rules.specs.Lists.{ranked, ranked_in}
use Rattle.aq_agg.specs.Ranks.{place_of}

not_below_itself : (x : ℤ) → int_lt x x ≡ false
not_below_itself x = grind (arith, ints)

insert-by : (x other : ℤ) (others : List ℤ) (b : Bool) → int_lt x other ≡ b → insert others (place_of x others) x ≡ ranked_in x others
    → insert (other ∷ others) (cond b (suc (place_of x others)) 0) x ≡ cond b (other ∷ ranked_in x others) (x ∷ other ∷ others)
insert-by x other others true is before = ap (λ l. other ∷ l) before
insert-by x other others false is before = refl

pub insert-at_place : (x : ℤ) (others : List ℤ) → insert others (place_of x others) x ≡ ranked_in x others
insert-at_place x [] = refl
insert-at_place x (other ∷ others) = insert-by x other others (int_lt x other) refl (insert-at_place x others)

place-by : (x other : ℤ) (others : List ℤ) (b : Bool) → int_lt x other ≡ b → place_of x (ranked_in x others) < length (ranked_in x others)
    → place_of x (cond b (other ∷ ranked_in x others) (x ∷ other ∷ others)) < length (cond b (other ∷ ranked_in x others) (x ∷ other ∷ others))
place-by x other others true is before = rw is (omega (arith, before))
place-by x other others false is before = rw (not_below_itself x) (omega arith)

pub place-within : (x : ℤ) (others : List ℤ) → place_of x (ranked_in x others) < length (ranked_in x others)
place-within x [] = rw (not_below_itself x) (omega arith)
place-within x (other ∷ others) = place-by x other others (int_lt x other) refl (place-within x others)

remove-by : (x other : ℤ) (others : List ℤ) (b : Bool) → int_lt x other ≡ b → remove (ranked_in x others) (place_of x (ranked_in x others)) ≡ others
    → remove (cond b (other ∷ ranked_in x others) (x ∷ other ∷ others)) (place_of x (cond b (other ∷ ranked_in x others) (x ∷ other ∷ others))) ≡ other ∷ others
remove-by x other others true is before = rw is (ap (λ l. other ∷ l) before)
remove-by x other others false is before = rw (not_below_itself x) refl

pub remove-at_place : (x : ℤ) (others : List ℤ) → remove (ranked_in x others) (place_of x (ranked_in x others)) ≡ others
remove-at_place x [] = rw (not_below_itself x) refl
remove-at_place x (other ∷ others) = remove-by x other others (int_lt x other) refl (remove-at_place x others)

-- ---- the same of ranked values

pub added : (values bag : List ℤ) (x : ℤ) → values ≡ ranked bag → insert values (place_of x values) x ≡ ranked (x ∷ bag)
unfolding ranked
added values bag x is = insert-at_place x values ∙ ap (ranked_in x) is

pub place-in : (values rest : List ℤ) (x : ℤ) → values ≡ ranked (x ∷ rest) → place_of x values < length values
unfolding ranked
place-in values rest x is = subst (λ (l : List ℤ). place_of x l < length l) (sym is) (place-within x (ranked rest))

pub taken : (values rest : List ℤ) (x : ℤ) → values ≡ ranked (x ∷ rest) → remove values (place_of x values) ≡ ranked rest
unfolding ranked
taken values rest x is = ap (λ (l : List ℤ). remove l (place_of x l)) is ∙ remove-at_place x (ranked rest)
