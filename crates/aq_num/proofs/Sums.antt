-- The running sum of fractions, and how large it grows.
use Rattle.std.proofs.Common.{◌≡◌, ℕ, suc, ◌+◌, ◌*◌, ◌/◌, ◌^◌, ◌<◌, ◌≤◌, List, [], ◌∷◌, ◌++◌, length, take, ℤ, pos, ◌+ℤ◌, ◌*ℤ◌, unsigned_abs, All, sym, ap, ◌∙◌, subst, arith, lit≤, lit<, FitsSigned}
use Rattle.std.specs.Int.{◌∣◌, w128}
use Rattle.std.proofs.lemmas.List.{length-take}
use Rattle.std.proofs.lemmas.List.Elements.{All-head, All-tail, All-take}
use borrow.Author.Differences.{sum_is_lem, product_is}
use Rattle.std.proofs.lemmas.Int.{ints, unsigned_abs-mul, fits_signed_from_abs}
use Rattle.std.proofs.Math.Nat.{pow-suc, one-le-mul, mul-le-mul, mul-le-mul_left, mul-le-mul_right, mul_comm, mul_assoc, div-mul_cancel, pow-le-pow_right}
use Rattle.aq_num.specs.Fractions.{sum_of_fractions, sum_in_units}

-- a sum and a product, times a natural number
pub scale-add : (a b : ℤ) (n : ℕ) → (a +ℤ b) *ℤ pos n ≡ (a *ℤ pos n) +ℤ (b *ℤ pos n)
scale-add a b n = omega (arith, ints, ap (λ z. z * n) (sum_is_lem a b))

pub scale-scale : (a : ℤ) (m n : ℕ) → (a *ℤ pos m) *ℤ pos n ≡ a *ℤ pos (m * n)
scale-scale a m n =
    omega (arith, ints, ap (λ z. z * n) (product_is a (pos m)).0, ap (λ z. z * n) (product_is a (pos m)).1)

-- a sum with one fraction more at the end
pub den-push : (fractions : List (ℤ × ℕ)) (one : ℤ × ℕ) → (sum_of_fractions (fractions ++ one ∷ [])).1 ≡ (sum_of_fractions fractions).1 * one.1
den-push [] one = omega arith
den-push (fraction ∷ fractions) one =
    ap (λ n. fraction.1 * n) (den-push fractions one) ∙ sym (mul_assoc fraction.1 (sum_of_fractions fractions).1 one.1)

num-regroup : (a b s : ℤ) (m n d : ℕ) → (a *ℤ pos (d * n)) +ℤ (((b *ℤ pos n) +ℤ (s *ℤ pos d)) *ℤ pos m) ≡ (((a *ℤ pos d) +ℤ (b *ℤ pos m)) *ℤ pos n) +ℤ (s *ℤ pos (m * d))
num-regroup a b s m n d = simp (scale-add, scale-scale) (omega (arith, ints))

pub num-push : (fractions : List (ℤ × ℕ)) (one : ℤ × ℕ) → (sum_of_fractions (fractions ++ one ∷ [])).0 ≡ ((sum_of_fractions fractions).0 *ℤ pos one.1) +ℤ (one.0 *ℤ pos (sum_of_fractions fractions).1)
num-push [] one = omega (arith, ints)
num-push (fraction ∷ fractions) one =
    rw (num-push fractions one, den-push fractions one)
    (num-regroup fraction.0 (sum_of_fractions fractions).0 one.0 fraction.1 one.1 (sum_of_fractions fractions).1)

-- the bounds of counts and sums
abbrev pub AreCounts : List (ℤ × ℕ) → Type 0
AreCounts parts = All (λ part. (1 ≤ part.1) × (part.1 ≤ 103)) parts

abbrev pub AreSums : List (ℤ × ℕ) → Type 0
AreSums parts = All (λ part. unsigned_abs part.0 ≤ 10299897) parts

pub record Bounds (parts : List (ℤ × ℕ)) : Type 0 where
  pub above : 1 ≤ (sum_of_fractions parts).1
  pub small : (sum_of_fractions parts).1 ≤ 103 ^ length parts
  pub within : unsigned_abs (sum_of_fractions parts).0 ≤ length parts * 10299897 * (sum_of_fractions parts).1

triangle : (a b : ℤ) → unsigned_abs (a +ℤ b) ≤ unsigned_abs a + unsigned_abs b
triangle a b = omega (arith, ints)

within-more : (s a : ℤ) (n d k most : ℕ) → 1 ≤ n → unsigned_abs s ≤ most → unsigned_abs a ≤ k * most * d → unsigned_abs ((s *ℤ pos d) +ℤ (a *ℤ pos n)) ≤ suc k * most * (n * d)
within-more s a n d k most above one rest =
    let both = triangle (s *ℤ pos d) (a *ℤ pos n) in
    let first : unsigned_abs (s *ℤ pos d) ≤ most * d = rw (unsigned_abs-mul s (pos d)) (mul-le-mul_right d one) in
    let second : unsigned_abs (a *ℤ pos n) ≤ k * most * d * n = rw (unsigned_abs-mul a (pos n)) (mul-le-mul_right n rest) in
    let wider : most * d * 1 ≤ most * d * n = mul-le-mul_left (most * d) above in
    omega arith

pub bounds-of : (parts : List (ℤ × ℕ)) → AreCounts parts → AreSums parts → Bounds parts
bounds-of [] counts sums = record { above = lit≤ tt; small = lit≤ tt; within = lit≤ tt }
bounds-of (part ∷ parts) counts sums =
    let count = All-head (λ (part : ℤ × ℕ). (1 ≤ part.1) × (part.1 ≤ 103)) part parts counts in
    let total = All-head (λ (part : ℤ × ℕ). unsigned_abs part.0 ≤ 10299897) part parts sums in
    let rest = bounds-of parts (All-tail (λ (part : ℤ × ℕ). (1 ≤ part.1) × (part.1 ≤ 103)) part parts counts) (All-tail (λ (part : ℤ × ℕ). unsigned_abs part.0 ≤ 10299897) part parts sums) in
    record {
      above = one-le-mul count.0 rest.above;
      small = rw (pow-suc 103 (length parts), mul_comm part.1 (sum_of_fractions parts).1) (mul-le-mul rest.small count.1);
      within = within-more part.0 (sum_of_fractions parts).0 part.1 (sum_of_fractions parts).1 (length parts) 10299897 count.0 total rest.within;
    }

-- the bounds of at most twelve parts
pub record Limits (parts : List (ℤ × ℕ)) : Type 0 where
  pub above : 1 ≤ (sum_of_fractions parts).1
  pub den : (sum_of_fractions parts).1 < 2 ^ 81
  pub within : unsigned_abs (sum_of_fractions parts).0 ≤ 123598764 * (sum_of_fractions parts).1
  pub num : unsigned_abs (sum_of_fractions parts).0 < 2 ^ 108

pub limits-of : (parts : List (ℤ × ℕ)) → AreCounts parts → AreSums parts → length parts ≤ 12 → Limits parts
limits-of parts counts sums few =
    let bounds = bounds-of parts counts sums in
    let most : 103 ^ length parts ≤ 103 ^ 12 = pow-le-pow_right (lit< tt) few in
    let den : (sum_of_fractions parts).1 < 2 ^ 81 = let small = bounds.small in omega arith in
    let times : length parts * 10299897 * (sum_of_fractions parts).1 ≤ 123598764 * (sum_of_fractions parts).1 = mul-le-mul_right (sum_of_fractions parts).1 (omega arith) in
    let within : unsigned_abs (sum_of_fractions parts).0 ≤ 123598764 * (sum_of_fractions parts).1 = let each = bounds.within in omega arith in
    record { above = bounds.above; den = den; within = within; num = omega arith }

-- in units of 1 / d
units-regroup : (s a u : ℤ) (n d q : ℕ) → a *ℤ pos (q * n) ≡ u *ℤ pos d → ((s *ℤ pos d) +ℤ (a *ℤ pos n)) *ℤ pos (q * n) ≡ ((s *ℤ pos q) +ℤ u) *ℤ pos (n * d)
units-regroup s a u n d q rest =
    let times : a *ℤ pos (q * n * n) ≡ u *ℤ pos (d * n) = simp scale-scale at (ap (λ z. z *ℤ pos n) rest) in
    simp (scale-add, scale-scale) (omega (arith, ints))

units-at : (s a u : ℤ) (n d q k : ℕ) → q * n ≡ k → a *ℤ pos k ≡ u *ℤ pos d → ((s *ℤ pos d) +ℤ (a *ℤ pos n)) *ℤ pos k ≡ ((s *ℤ pos q) +ℤ u) *ℤ pos (n * d)
units-at s a u n d q k whole =
    let P : ℕ → Type 0 = λ k. a *ℤ pos k ≡ u *ℤ pos d → ((s *ℤ pos d) +ℤ (a *ℤ pos n)) *ℤ pos k ≡ ((s *ℤ pos q) +ℤ u) *ℤ pos (n * d) in
    subst P whole (units-regroup s a u n d q)

pub units-of : (d : ℕ) (parts : List (ℤ × ℕ)) → All (λ part. part.1 ∣ d) parts → (sum_of_fractions parts).0 *ℤ pos d ≡ sum_in_units d parts *ℤ pos (sum_of_fractions parts).1
units-of d [] divide = omega (arith, ints)
units-of d (part ∷ parts) divide =
    units-at part.0 (sum_of_fractions parts).0 (sum_in_units d parts) part.1 (sum_of_fractions parts).1 (d / part.1) d (div-mul_cancel part.1 (All-head (λ (part : ℤ × ℕ). part.1 ∣ d) part parts divide)) (units-of d parts (All-tail (λ (part : ℤ × ℕ). part.1 ∣ d) part parts divide))

-- one step of the sum and each part of it fit 128 bits
pub record StepFits (num den total : ℤ) (count : ℕ) : Type 0 where
  pub old_num : FitsSigned w128 num
  pub old_den : FitsSigned w128 den
  pub one_total : FitsSigned w128 total
  pub one_count : FitsSigned w128 (pos count)
  pub first : FitsSigned w128 (num *ℤ pos count)
  pub second : FitsSigned w128 (total *ℤ den)
  pub new_num : FitsSigned w128 ((num *ℤ pos count) +ℤ (total *ℤ den))
  pub new_den : FitsSigned w128 (den *ℤ pos count)

pub step-fits : (num den total : ℤ) (count : ℕ) → unsigned_abs num ≤ 2 ^ 108 → unsigned_abs den ≤ 2 ^ 81 → unsigned_abs total ≤ 2 ^ 31 → count < 2 ^ 8 → StepFits num den total count
step-fits num den total count num_small den_small total_small count_small =
    let both = triangle (num *ℤ pos count) (total *ℤ den) in
    let count_most : count ≤ 2 ^ 8 = omega arith in
    let first : unsigned_abs (num *ℤ pos count) ≤ 2 ^ 108 * 2 ^ 8 = rw (unsigned_abs-mul num (pos count)) (mul-le-mul num_small count_most) in
    let second : unsigned_abs (total *ℤ den) ≤ 2 ^ 31 * 2 ^ 81 = rw (unsigned_abs-mul total den) (mul-le-mul total_small den_small) in
    let times : unsigned_abs (den *ℤ pos count) ≤ 2 ^ 81 * 2 ^ 8 = rw (unsigned_abs-mul den (pos count)) (mul-le-mul den_small count_most) in
    record {
      old_num = fits_signed_from_abs w128 _ (omega arith);
      old_den = fits_signed_from_abs w128 _ (omega arith);
      one_total = fits_signed_from_abs w128 _ (omega arith);
      one_count = fits_signed_from_abs w128 _ (omega arith);
      first = fits_signed_from_abs w128 _ (omega arith);
      second = fits_signed_from_abs w128 _ (omega arith);
      new_num = fits_signed_from_abs w128 _ (omega arith);
      new_den = fits_signed_from_abs w128 _ (omega arith);
    }

-- the first parts of twelve
pub limits-at : (parts : List (ℤ × ℕ)) (i : ℕ) → AreCounts parts → AreSums parts → length parts ≡ 12 → Limits (take i parts)
limits-at parts i counts sums twelve =
    limits-of (take i parts)
    (All-take (λ (part : ℤ × ℕ). (1 ≤ part.1) × (part.1 ≤ 103)) i parts counts)
    (All-take (λ (part : ℤ × ℕ). unsigned_abs part.0 ≤ 10299897) i parts sums)
    (omega (arith, length-take i parts))
