-- Sums, least and greatest values of lists that are joined.
use Rattle.std.proofs.Common.{◌≡◌, List, [], ◌∷◌, ◌++◌, refl, sym, ap, ◌∙◌, arith}
use Rattle.std.specs.Prelude.{ℤ, pos, ◌+ℤ◌, Option, Some, None}
use Rattle.std.specs.List.{fold, flat_map, filter_map, cons_option}
use Rattle.std.specs.Int.{int_min, int_max}
use Rattle.std.proofs.lemmas.Int.{ints}
use Rattle.std.proofs.lemmas.List.Sums.{fold-append}
use Rattle.std.proofs.Math.IntN.{+ℤ_idl}
use Rattle.aq_rules.specs.Lists.{total, lesser, least, greater, greatest}

-- ---- sums

total-from : (a : ℤ) (xs : List ℤ) → fold (λ sum value. sum +ℤ value) a xs ≡ a +ℤ total xs
total-from a [] = omega (arith, ints)
total-from a (x ∷ xs) =
    let first : fold (λ sum value. sum +ℤ value) (a +ℤ x) xs ≡ (a +ℤ x) +ℤ total xs = total-from (a +ℤ x) xs in
    let second : fold (λ sum value. sum +ℤ value) (pos 0 +ℤ x) xs ≡ (pos 0 +ℤ x) +ℤ total xs = total-from (pos 0 +ℤ x) xs in
    omega (arith, ints, first, second)

pub total-cons : (x : ℤ) (xs : List ℤ) → total (x ∷ xs) ≡ x +ℤ total xs
total-cons x xs = total-from (pos 0 +ℤ x) xs ∙ ap (λ (z : ℤ). z +ℤ total xs) (+ℤ_idl x)

pub total-append : (xs ys : List ℤ) → total (xs ++ ys) ≡ total xs +ℤ total ys
total-append xs ys = fold-append (λ sum value. sum +ℤ value) (pos 0) xs ys ∙ total-from (total xs) ys

-- ---- the least and the greatest value

min_of_three : (x y z : ℤ) → int_min (int_min x y) z ≡ int_min x (int_min y z)
min_of_three x y z = grind (arith, ints)

max_of_three : (x y z : ℤ) → int_max (int_max x y) z ≡ int_max x (int_max y z)
max_of_three x y z = grind (arith, ints)

abbrev pub lesser_of : Option ℤ → Option ℤ → Option ℤ
lesser_of None b = b
lesser_of (Some x) None = Some x
lesser_of (Some x) (Some y) = Some (int_min x y)

abbrev pub greater_of : Option ℤ → Option ℤ → Option ℤ
greater_of None b = b
greater_of (Some x) None = Some x
greater_of (Some x) (Some y) = Some (int_max x y)

lesser_turns : (x y : ℤ) (b : Option ℤ) → lesser_of (Some (int_min x y)) b ≡ lesser_of (Some x) (lesser_of (Some y) b)
lesser_turns x y None = refl
lesser_turns x y (Some z) = ap (λ (v : ℤ). Some v) (min_of_three x y z)

greater_turns : (x y : ℤ) (b : Option ℤ) → greater_of (Some (int_max x y)) b ≡ greater_of (Some x) (greater_of (Some y) b)
greater_turns x y None = refl
greater_turns x y (Some z) = ap (λ (v : ℤ). Some v) (max_of_three x y z)

pub least-some : (x : ℤ) (ys : List ℤ) → fold lesser (Some x) ys ≡ lesser_of (Some x) (least ys)
least-some x [] = refl
least-some x (y ∷ ys) =
    least-some (int_min x y) ys ∙ lesser_turns x y (least ys) ∙ ap (lesser_of (Some x)) (sym (least-some y ys))

pub greatest-some : (x : ℤ) (ys : List ℤ) → fold greater (Some x) ys ≡ greater_of (Some x) (greatest ys)
greatest-some x [] = refl
greatest-some x (y ∷ ys) =
    greatest-some (int_max x y) ys ∙ greater_turns x y (greatest ys) ∙ ap (greater_of (Some x)) (sym (greatest-some y ys))

least-from : (o : Option ℤ) (ys : List ℤ) → fold lesser o ys ≡ lesser_of o (least ys)
least-from None ys = refl
least-from (Some x) ys = least-some x ys

greatest-from : (o : Option ℤ) (ys : List ℤ) → fold greater o ys ≡ greater_of o (greatest ys)
greatest-from None ys = refl
greatest-from (Some x) ys = greatest-some x ys

least-append : (xs ys : List ℤ) → least (xs ++ ys) ≡ lesser_of (least xs) (least ys)
least-append xs ys = fold-append lesser None xs ys ∙ least-from (least xs) ys

greatest-append : (xs ys : List ℤ) → greatest (xs ++ ys) ≡ greater_of (greatest xs) (greatest ys)
greatest-append xs ys = fold-append greater None xs ys ∙ greatest-from (greatest xs) ys

least-option : (o : Option ℤ) (ys : List ℤ) → least (cons_option o ys) ≡ lesser_of o (least ys)
least-option None ys = refl
least-option (Some x) ys = least-some x ys

greatest-option : (o : Option ℤ) (ys : List ℤ) → greatest (cons_option o ys) ≡ greater_of o (greatest ys)
greatest-option None ys = refl
greatest-option (Some x) ys = greatest-some x ys

-- of several lists, the least of their least values, and the greatest of their greatest
pub least-of_lists : {X : Type 0} (values : X → List ℤ) (qs : List X) → least (filter_map (λ q. least (values q)) qs) ≡ least (flat_map values qs)
least-of_lists values [] = refl
least-of_lists values (q ∷ qs) =
    least-option (least (values q)) (filter_map (λ o. least (values o)) qs)
    ∙ ap (lesser_of (least (values q))) (least-of_lists values qs) ∙ sym (least-append (values q) (flat_map values qs))

pub greatest-of_lists : {X : Type 0} (values : X → List ℤ) (qs : List X) → greatest (filter_map (λ q. greatest (values q)) qs) ≡ greatest (flat_map values qs)
greatest-of_lists values [] = refl
greatest-of_lists values (q ∷ qs) =
    greatest-option (greatest (values q)) (filter_map (λ o. greatest (values o)) qs)
    ∙ ap (greater_of (greatest (values q))) (greatest-of_lists values qs) ∙ sym (greatest-append (values q) (flat_map values qs))
