-- What does not depend on the order of a list.
use Rattle.std.proofs.Common.{◌≡◌, ℕ, zero, suc, ◌<◌, ◌≤◌, List, [], ◌∷◌, length, get_or, set, refl, sym, ap, ◌∙◌, arith}
use Rattle.std.specs.List.{filter_map, cons_option, swap}
use Rattle.std.specs.List.Sorted.{IsPermutation}
use Rattle.std.specs.Prelude.{Option, Some, None}
use Rattle.std.proofs.lemmas.List.Sorted.{IsPermutation-keeps, IsPermutation-refl, IsPermutation-trans, IsPermutation-cons, IsPermutation-middle}

-- a relation that holds of a list and itself, is passed on, and stays if a first item is put before both lists or the first two items change places, holds of a list and each of its orders
module _ {X : Type 0} (Same : List X → List X → Type 0) (same : (xs : List X) → Same xs xs)
    (joined : (xs ys zs : List X) → Same xs ys → Same ys zs → Same xs zs)
    (next : (x : X) (xs ys : List X) → Same xs ys → Same (x ∷ xs) (x ∷ ys))
    (turned : (x y : X) (xs : List X) → Same (x ∷ y ∷ xs) (y ∷ x ∷ xs)) where
  -- the first item and a later one change places
  with_first : (x : X) (ys : List X) (j : ℕ) (d : X) → j < length ys → Same (x ∷ ys) (get_or ys j d ∷ set ys j x)
  with_first x [] j d within = absurd (omega arith)
  with_first x (y ∷ ys) zero d within = turned x y ys
  with_first x (y ∷ ys) (suc j) d within =
      joined _ _ _ (turned x y ys)
      (joined _ _ _ (next y _ _ (with_first x ys j d (omega arith))) (turned y (get_or ys j d) (set ys j x)))

  changed : (xs : List X) (i j : ℕ) (d : X) → i < length xs → j < length xs → Same xs (set (set xs i (get_or xs j d)) j (get_or xs i d))
  changed [] i j d low high = absurd (omega arith)
  changed (x ∷ xs) zero zero d low high = same (x ∷ xs)
  changed (x ∷ xs) zero (suc j) d low high = with_first x xs j d (omega arith)
  changed (x ∷ xs) (suc i) zero d low high = with_first x xs i d (omega arith)
  changed (x ∷ xs) (suc i) (suc j) d low high = next x _ _ (changed xs i j d (omega arith) (omega arith))

  swapped : (xs : List X) (i j : ℕ) → i < length xs → j < length xs → Same xs (swap xs i j)
  swapped [] i j low high = same []
  swapped (x ∷ xs) i j low high = changed (x ∷ xs) i j x low high

  pub same_in_any_order : (xs ys : List X) → IsPermutation xs ys → Same xs ys
  same_in_any_order xs ys moved =
      IsPermutation-keeps xs (λ l. Same xs l) (same xs) (λ l i j low high so_far. joined xs l (swap l i j) so_far (swapped l i j low high)) ys moved

-- a fold in which items change places is the same in any order
module _ {X R : Type 0} (F : List X → R) (G : X → R → R) (step : (x : X) (xs : List X) → F (x ∷ xs) ≡ G x (F xs))
    (commutes : (x y : X) (r : R) → G x (G y r) ≡ G y (G x r)) where
  pub fold_in_any_order : (xs ys : List X) → IsPermutation xs ys → F xs ≡ F ys
  fold_in_any_order =
      same_in_any_order (λ xs ys. F xs ≡ F ys) (λ xs. refl) (λ xs ys zs e f. e ∙ f)
      (λ x xs ys e. step x xs ∙ ap (G x) e ∙ sym (step x ys))
      (λ x y xs. step x (y ∷ xs) ∙ ap (G x) (step y xs) ∙ commutes x y (F xs) ∙ sym (ap (G y) (step x xs)) ∙ sym (step y (x ∷ xs)))

first_two : {Y : Type 0} (a b : Y) (ys : List Y) → IsPermutation (a ∷ b ∷ ys) (b ∷ a ∷ ys)
first_two a b ys = IsPermutation-middle (a ∷ []) b ys

cons_option-moved : {Y : Type 0} (a : Option Y) (xs ys : List Y) → IsPermutation xs ys → IsPermutation (cons_option a xs) (cons_option a ys)
cons_option-moved None xs ys moved = moved
cons_option-moved (Some a) xs ys moved = IsPermutation-cons a xs ys moved

cons_option-turned : {Y : Type 0} (a b : Option Y) (ys : List Y) → IsPermutation (cons_option a (cons_option b ys)) (cons_option b (cons_option a ys))
cons_option-turned None b ys = IsPermutation-refl (cons_option b ys)
cons_option-turned (Some a) None ys = IsPermutation-refl (a ∷ ys)
cons_option-turned (Some a) (Some b) ys = first_two a b ys

pub filter_map-moved : {X Y : Type 0} (h : X → Option Y) (xs ys : List X) → IsPermutation xs ys → IsPermutation (filter_map h xs) (filter_map h ys)
filter_map-moved h =
    same_in_any_order (λ xs ys. IsPermutation (filter_map h xs) (filter_map h ys)) (λ xs. IsPermutation-refl (filter_map h xs))
    (λ xs ys zs. IsPermutation-trans (filter_map h xs) (filter_map h ys) (filter_map h zs))
    (λ x xs ys. cons_option-moved (h x) (filter_map h xs) (filter_map h ys))
    (λ x y xs. cons_option-turned (h x) (h y) (filter_map h xs))

-- a list of one item at most has one order
at_most_one : {X : Type 0} (xs : List X) (i j : ℕ) → length xs ≤ 1 → i < length xs → j < length xs → swap xs i j ≡ xs
at_most_one [] i j short low high = refl
at_most_one (x ∷ []) zero zero short low high = refl
at_most_one (x ∷ []) zero (suc j) short low high = absurd (omega arith)
at_most_one (x ∷ []) (suc i) j short low high = absurd (omega arith)
at_most_one (x ∷ y ∷ xs) i j short low high = absurd (omega arith)

pub one_order : {X : Type 0} (xs ys : List X) → length xs ≤ 1 → IsPermutation xs ys → ys ≡ xs
one_order xs ys short moved =
    IsPermutation-keeps xs (λ l. l ≡ xs) refl
    (λ l i j low high e. let few : length l ≤ 1 = rw e short in at_most_one l i j few low high ∙ e) ys moved
