-- Counts of a list: by a place up to which a test is passed, and by two tests that share it.
use Rattle.std.proofs.Common.{◌≡◌, ◌≤◌, ◌<◌, ◌+◌, ℕ, zero, suc, Bool, true, false, List, [], ◌∷◌, ◌++◌, cond, get_or, count_by, length, refl, ap, sym, ◌∙◌, arith}
use Rattle.std.proofs.lemmas.Cmp.{upto}
use Rattle.std.proofs.lemmas.List.Sorted.{ranks_by, sorted_far, sum_by-IsPermutation}
use Rattle.std.proofs.lemmas.List.Sums.{sum_by-append, sum_by-cons}
use Rattle.std.specs.Cmp.{IsTotalOrder}
use Rattle.std.specs.List.Sorted.{IsPartitionPoint, IsPartitionedBy, IsPermutation, IsSorted}
use Rattle.std.specs.Ordering.{is_gt, is_le, is_lt, ordering_reverse}
use Rattle.std.specs.declared.cmp.Ordering.{Ordering}
use Rattle.std.specs.declared.cmp.Ordering.TheVariants.{Less, Equal, Greater}

pub count-cons : {X : Type 0} (p : X → Bool) (x : X) (xs : List X) → count_by p (x ∷ xs) ≡ cond (p x) 1 0 + count_by p xs
count-cons p x xs = sum_by-cons (λ y. cond (p y) 1 0) x xs

-- a test that the front of a list passes, and the rest does not
pub count-point : {X : Type 0} (p : X → Bool) (xs : List X) (i : ℕ) → i ≤ length xs → IsPartitionPoint (λ x. p x ≡ true) (λ x. p x ≡ false) xs i → count_by p xs ≡ i
count-point p [] i few point = omega arith
count-point p (x ∷ xs) zero few point =
    let none = count-point p xs 0 (omega arith) (λ k d from to. absurd (omega arith), λ k d from to. point.1 (suc k) d (omega arith) (omega arith)) in
    count-cons p x xs ∙ ap (λ b. cond b 1 0 + count_by p xs) (point.1 0 x (omega arith) (omega arith)) ∙ ap (λ n. 0 + n) none
count-point p (x ∷ xs) (suc i) few point =
    let rest = count-point p xs i (omega arith) (λ k d from to. point.0 (suc k) d (omega arith) (omega arith), λ k d from to. point.1 (suc k) d (omega arith) (omega arith)) in
    count-cons p x xs ∙ ap (λ b. cond b 1 0 + count_by p xs) (point.0 0 x (omega arith) (omega arith)) ∙ ap (λ n. 1 + n) rest ∙ omega arith

-- each item counts for one of two tests if it counts for a third one
pub count-split : {X : Type 0} (p q r : X → Bool) → ((x : X) → cond (p x) 1 0 ≡ cond (q x) 1 0 + cond (r x) 1 0) → (xs : List X) → count_by p xs ≡ count_by q xs + count_by r xs
count-split p q r each [] = refl
count-split p q r each (x ∷ xs) = omega (arith, count-cons p x xs, count-cons q x xs, count-cons r x xs, each x, count-split p q r each xs)

pub count-same : {X : Type 0} (p q : X → Bool) → ((x : X) → p x ≡ q x) → (xs : List X) → count_by p xs ≡ count_by q xs
count-same p q each [] = refl
count-same p q each (x ∷ xs) = count-cons p x xs ∙ ap (λ b. cond b 1 0 + count_by p xs) (each x) ∙ ap (λ n. cond (q x) 1 0 + n) (count-same p q each xs) ∙ sym (count-cons q x xs)

pub count-none : {X : Type 0} (xs : List X) → count_by (λ (x : X). false) xs ≡ 0
count-none [] = refl
count-none {X} (x ∷ xs) = omega (arith, count-cons (λ (y : X). false) x xs, count-none xs)

-- the items of a list in another order
pub count-permuted : {X : Type 0} (p : X → Bool) (xs ys : List X) → IsPermutation xs ys → count_by p ys ≡ count_by p xs
count-permuted p xs ys permuted = sum_by-IsPermutation (λ x. cond (p x) 1 0) xs ys permuted

pub count-append : {X : Type 0} (p : X → Bool) (xs ys : List X) → count_by p (xs ++ ys) ≡ count_by p xs + count_by p ys
count-append p xs ys = sum_by-append (λ x. cond (p x) 1 0) xs ys

-- sums of what is counted and what is left, at a step of a walk and at its end
pub one-more : (old new one left rest all : ℕ) (n : ℕ) → new ≡ old + one → left ≡ n → n ≡ one + rest → old + left ≡ all → new + rest ≡ all
one-more old new one left rest all n added is first before = omega arith

pub all-counted : (counted left all : ℕ) → left ≡ 0 → counted + left ≡ all → counted ≡ all
all-counted counted left all none before = omega arith

-- ---- sorted lists

gt-back : (o : Ordering) → is_gt (ordering_reverse o) ≡ is_lt o
gt-back Less = refl
gt-back Equal = refl
gt-back Greater = refl

le-from : (o : Ordering) → is_gt o ≡ false → is_le o ≡ true
le-from Less h = refl
le-from Equal h = refl
le-from Greater h = sym h

gt-from : (o : Ordering) → is_le o ≡ true → is_gt o ≡ false
gt-from Less h = refl
gt-from Equal h = refl
gt-from Greater h = sym h

module _ {T : Type 0} {R : T → T → Ordering} (order : IsTotalOrder R) (bound : T) (xs : List T) (sorted : IsSorted R xs) where
  no_later : (x y : T) → is_lt (R y x) ≡ false → is_gt (R x y) ≡ false
  no_later x y h = ap is_gt (order.antisymm x y) ∙ gt-back (R y x) ∙ h

  in_order : (i j : ℕ) (d : T) → i ≤ j → j < length xs → is_gt (R (get_or xs i d) (get_or xs j d)) ≡ false
  in_order i j d upward within =
      no_later (get_or xs i d) (get_or xs j d) (sorted_far (λ x y. is_lt (R x y)) (ranks_by order (λ x. x)) xs sorted i j d upward within)

  pub parted-up_to : IsPartitionedBy (λ x. is_le (R x bound)) xs
  parted-up_to i j d upward within passes =
      le-from (R (get_or xs i d) bound) (upto order (get_or xs i d) (get_or xs j d) bound (in_order i j d upward within) (gt-from (R (get_or xs j d) bound) passes))

  below : (x y : T) → is_gt (R x y) ≡ false → is_lt (R y bound) ≡ true → (b : Bool) → is_lt (R x bound) ≡ b → b ≡ true
  below x y upward passes true h = refl
  below x y upward passes false h =
      let back = upto order bound x y (ap is_gt (order.antisymm bound x) ∙ gt-back (R x bound) ∙ h) upward in
      sym back ∙ (ap is_gt (order.antisymm bound y) ∙ gt-back (R y bound) ∙ passes)

  pub parted-below : IsPartitionedBy (λ x. is_lt (R x bound)) xs
  parted-below i j d upward within passes =
      below (get_or xs i d) (get_or xs j d) (in_order i j d upward within) passes (is_lt (R (get_or xs i d) bound)) refl
