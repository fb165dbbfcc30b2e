-- Sums of quarterly means and of two exact means, and how large they are.
use Rattle.std.proofs.Common.{◌≡◌, ℕ, zero, suc, ◌+◌, ◌*◌, ◌/◌, ◌^◌, ◌≤◌, List, [], ◌∷◌, ◌++◌, length, replicate, All, refl, ap, lit≤, arith, FitsSigned}
use Rattle.std.specs.Prelude.{ℤ, pos, negsuc, ◌+ℤ◌, ◌*ℤ◌, ◌≤ℤ◌, unsigned_abs}
use Rattle.std.specs.Int.{int_div_euclid, w32, w128}
use Rattle.std.proofs.lemmas.Int.{ints, unsigned_abs-mul}
use Rattle.std.proofs.lemmas.List.Elements.{All-append, All-cons, All-nil, All-head, All-tail}
use Rattle.std.proofs.Math.IntN.{◌-ℤ◌}
use Rattle.std.proofs.Math.Nat.{mul-le-mul, mul-le-mul_right, one-le-mul, div-le_of_le-mul}
use Rattle.aq_num.specs.Fractions.{sum_of_fractions, fraction_sum}
use Rattle.aq_num.proofs.Sums.{AreCounts, AreSums, bounds-of}
use Rattle.aq_rules.specs.Areas.CriticalValue.{below}
use Rattle.aq_rules.specs.Particles.Means.{Fraction, sum_of_fractions as sum_of_means}
use Rattle.aq_area.specs.ExactMeans.{IsQuarterly, IsTwo}
use Rattle.aq_area.specs.NextYear.{IsLevel}

-- ---- four means, and twelve quotients with their sum

abbrev nothing_more : List Fraction
nothing_more = replicate 8 (pos 0, 1)

pub same-sum : (means : List Fraction) → sum_of_fractions (means ++ nothing_more) ≡ sum_of_means means
same-sum [] = refl
same-sum (mean ∷ means) = ap (fraction_sum mean) (same-sum means)

same-alone : (means : List Fraction) → sum_of_fractions means ≡ sum_of_means means
same-alone [] = refl
same-alone (mean ∷ means) = ap (fraction_sum mean) (same-alone means)

abbrev IsCount : Fraction → Type 0
IsCount mean = (1 ≤ mean.1) × (mean.1 ≤ 103)

abbrev IsSum : Fraction → Type 0
IsSum mean = unsigned_abs mean.0 ≤ 10299897

counts-of : (means : List Fraction) → All IsQuarterly means → AreCounts means
counts-of [] each = All-nil IsCount
counts-of (mean ∷ means) each =
    let is : IsQuarterly mean = All-head IsQuarterly mean means each in
    All-cons IsCount mean means (is.some, omega (arith, is.days)) (counts-of means (All-tail IsQuarterly mean means each))

sums-of : (means : List Fraction) → All IsQuarterly means → AreSums means
sums-of [] each = All-nil IsSum
sums-of (mean ∷ means) each =
    let is : IsQuarterly mean = All-head IsQuarterly mean means each in
    All-cons IsSum mean means (omega (arith, is.days, is.sum)) (sums-of means (All-tail IsQuarterly mean means each))

counts-nothing : (n : ℕ) → AreCounts (replicate n (pos 0, 1))
counts-nothing zero = All-nil IsCount
counts-nothing (suc n) = All-cons IsCount (pos 0, 1) (replicate n (pos 0, 1)) (lit≤ tt, lit≤ tt) (counts-nothing n)

sums-nothing : (n : ℕ) → AreSums (replicate n (pos 0, 1))
sums-nothing zero = All-nil IsSum
sums-nothing (suc n) = All-cons IsSum (pos 0, 1) (replicate n (pos 0, 1)) (lit≤ tt) (sums-nothing n)

pub counts-more : (means : List Fraction) → All IsQuarterly means → AreCounts (means ++ nothing_more)
counts-more means each = All-append IsCount means nothing_more (counts-of means each) (counts-nothing 8)

pub sums-more : (means : List Fraction) → All IsQuarterly means → AreSums (means ++ nothing_more)
sums-more means each = All-append IsSum means nothing_more (sums-of means each) (sums-nothing 8)

-- four of at most 103 days: the product of their days is small
pub few-days : (means : List Fraction) → length means ≡ 4 → All IsQuarterly means → (sum_of_means means).1 ≤ 2 ^ 27
few-days means four each =
    let small : (sum_of_fractions means).1 ≤ 103 ^ length means = (bounds-of means (counts-of means each) (sums-of means each)).small in
    let few : 103 ^ length means ≡ 112550881 = ap (λ n. 103 ^ n) four in
    omega (arith, small, few, ap (λ (s : Fraction). s.1) (same-alone means))

-- ---- two means

pub record TwoFit (b l : ℤ) (c d : ℤ) : Type 0 where
  pub num_before : FitsSigned w128 b
  pub num_last : FitsSigned w128 l
  pub den_before : FitsSigned w128 c
  pub den_last : FitsSigned w128 d
  pub first : FitsSigned w128 (b *ℤ d)
  pub second : FitsSigned w128 (l *ℤ c)
  pub both : FitsSigned w128 ((b *ℤ d) +ℤ (l *ℤ c))
  pub den : FitsSigned w128 (c *ℤ d)
  pub value : ((b *ℤ d) +ℤ (l *ℤ c), unsigned_abs (c *ℤ d)) ≡ sum_of_means ((b, unsigned_abs c) ∷ (l, unsigned_abs d) ∷ [])
  pub some : pos 1 ≤ℤ (c *ℤ d)
  pub few : unsigned_abs (c *ℤ d) ≤ 2 ^ 58
  pub within : unsigned_abs ((b *ℤ d) +ℤ (l *ℤ c)) ≤ 24 * 10299897 * unsigned_abs (c *ℤ d)

one-alone : (l : ℤ) (n : ℕ) → (l, n) ≡ sum_of_means ((l, n) ∷ [])
one-alone l n =
    let num : l ≡ (l *ℤ pos 1) +ℤ (pos 0 *ℤ pos n) = omega (arith, ints) in
    let den : n ≡ n * 1 = omega arith in
    λ i. (num i, den i)

pub two-fit : (b l c d : ℤ) → pos 1 ≤ℤ c → unsigned_abs c ≤ 2 ^ 29 → unsigned_abs b ≤ 12 * 10299897 * unsigned_abs c
    → pos 1 ≤ℤ d → unsigned_abs d ≤ 2 ^ 29 → unsigned_abs l ≤ 12 * 10299897 * unsigned_abs d → TwoFit b l c d
two-fit b l (pos m) (pos n) some_c few_c within_b some_d few_d within_l =
    let first : unsigned_abs (b *ℤ pos n) ≤ 12 * 10299897 * m * n = rw (unsigned_abs-mul b (pos n)) (mul-le-mul_right n within_b) in
    let second : unsigned_abs (l *ℤ pos m) ≤ 12 * 10299897 * n * m = rw (unsigned_abs-mul l (pos m)) (mul-le-mul_right m within_l) in
    let few : m * n ≤ 2 ^ 29 * 2 ^ 29 = mul-le-mul few_c few_d in
    let some : 1 ≤ m * n = one-le-mul (omega (arith, ints, some_c)) (omega (arith, ints, some_d)) in
    record {
      num_before = omega (arith, ints, within_b, few_c);
      num_last = omega (arith, ints, within_l, few_d);
      den_before = omega (arith, ints, few_c);
      den_last = omega (arith, ints, few_d);
      first = omega (arith, ints, first, few);
      second = omega (arith, ints, second, few);
      both = omega (arith, ints, first, second, few);
      den = omega (arith, ints, few);
      value = ap (fraction_sum (b, m)) (one-alone l n);
      some = omega (arith, ints, some);
      few = omega (arith, ints, few);
      within = omega (arith, ints, first, second);
    }
two-fit b l (negsuc m) d some_c few_c within_b some_d few_d within_l = absurd (omega (arith, ints, some_c))
two-fit b l (pos m) (negsuc n) some_c few_c within_b some_d few_d within_l = absurd (omega (arith, ints, some_d))

-- ---- a product and a quotient

pub product-size : (a b : ℤ) → unsigned_abs a ≤ 2 ^ 60 → unsigned_abs b ≤ 2 ^ 60 → unsigned_abs (a *ℤ b) ≤ 2 ^ 120
product-size a b few_a few_b =
    let most : unsigned_abs a * unsigned_abs b ≤ 2 ^ 60 * 2 ^ 60 = mul-le-mul few_a few_b in
    omega (arith, unsigned_abs-mul a b, most)

pub product-fits : (a b : ℤ) → unsigned_abs a ≤ 2 ^ 60 → unsigned_abs b ≤ 2 ^ 60 → FitsSigned w128 (a *ℤ b)
product-fits a b few_a few_b = omega (arith, ints, product-size a b few_a few_b)

-- three times as much, over a level and a half
left-size : (level num : ℤ) (d : ℕ) → pos 0 ≤ℤ level → level ≤ℤ pos 150 → unsigned_abs num ≤ 24 * 10299897 * d
    → unsigned_abs ((((pos 2 *ℤ level) +ℤ pos 1) *ℤ pos (3 * d)) -ℤ (pos 2 *ℤ num)) ≤ 500000000 * d
left-size level num d least most within =
    let few : unsigned_abs ((pos 2 *ℤ level) +ℤ pos 1) ≤ 301 = omega (arith, ints, least, most) in
    let times : unsigned_abs (((pos 2 *ℤ level) +ℤ pos 1) *ℤ pos (3 * d)) ≤ 301 * (3 * d) =
    rw (unsigned_abs-mul ((pos 2 *ℤ level) +ℤ pos 1) (pos (3 * d))) (mul-le-mul_right (3 * d) few)
    in
    omega (arith, ints, times, within)

abbrev odd : ℤ → ℤ
odd level = (pos 2 *ℤ level) +ℤ pos 1

pub record LeftFits (level num den : ℤ) : Type 0 where
  pub level_fits : FitsSigned w128 level
  pub twice_level : FitsSigned w128 (pos 2 *ℤ level)
  pub odd_level : FitsSigned w128 (odd level)
  pub den_fits : FitsSigned w128 den
  pub three : FitsSigned w128 (pos 3 *ℤ den)
  pub two : FitsSigned w128 (pos 2 *ℤ den)
  pub two_is : pos 2 *ℤ den ≡ pos (2 * unsigned_abs den)
  pub one : FitsSigned w128 num
  pub twice : FitsSigned w128 (pos 2 *ℤ num)
  pub first : FitsSigned w128 (odd level *ℤ (pos 3 *ℤ den))
  pub rest : FitsSigned w128 ((odd level *ℤ (pos 3 *ℤ den)) -ℤ (pos 2 *ℤ num))
  pub value : (odd level *ℤ (pos 3 *ℤ den)) -ℤ (pos 2 *ℤ num) ≡ (odd level *ℤ pos (3 * unsigned_abs den)) -ℤ (pos 2 *ℤ num)
  pub size : unsigned_abs ((odd level *ℤ (pos 3 *ℤ den)) -ℤ (pos 2 *ℤ num)) ≤ 500000000 * unsigned_abs den

pub left-fits : (level num den : ℤ) → IsLevel level → IsTwo (record { num = num; den = den }) → LeftFits level num den
left-fits level num (pos d) is sum =
    let size = left-size level num d is.least is.most sum.within in
    let few : d ≤ 2 ^ 58 = sum.few in
    let within = sum.within in
    let least = is.least in
    let most = is.most in
    record {
      level_fits = omega (arith, ints, least, most);
      twice_level = omega (arith, ints, least, most);
      odd_level = omega (arith, ints, least, most);
      den_fits = omega (arith, ints, few);
      three = omega (arith, ints, few);
      two = omega (arith, ints, few);
      two_is = refl;
      one = omega (arith, ints, within, few);
      twice = omega (arith, ints, within, few);
      first = omega (arith, ints, size, within, few);
      rest = omega (arith, ints, size, few);
      value = refl;
      size = size;
    }
left-fits level num (negsuc d) is sum = let some = sum.some in absurd (omega (arith, ints, some))

quotient-size : (z : ℤ) (m most : ℕ) → unsigned_abs z ≤ m * most → unsigned_abs (int_div_euclid z (pos m)) ≤ most + 1
quotient-size (pos a) m most few = let q : a / m ≤ most = div-le_of_le-mul m few in omega (arith, ints, q)
quotient-size (negsuc a) m most few =
    let less : a ≤ m * most = omega (arith, few) in
    let q : a / m ≤ most = div-le_of_le-mul m less in
    omega (arith, ints, q)

pub record QuotientFits (num den : ℤ) : Type 0 where
  pub less : FitsSigned w128 (num -ℤ pos 1)
  pub wide : FitsSigned w128 (below num den)
  pub narrow : FitsSigned w32 (below num den)

pub quotient-fits : (num den : ℤ) → pos 1 ≤ℤ den → unsigned_abs den ≤ 2 ^ 60 → unsigned_abs num ≤ 250000000 * unsigned_abs den → QuotientFits num den
quotient-fits num (pos m) some few size =
    let within : unsigned_abs (num -ℤ pos 1) ≤ m * 250000001 = omega (arith, ints, some, size) in
    let quotient = quotient-size (num -ℤ pos 1) m 250000001 within in
    record {
      less = omega (arith, ints, within, few);
      wide = omega (arith, ints, quotient);
      narrow = omega (arith, ints, quotient);
    }
quotient-fits num (negsuc m) some few size = absurd (omega (arith, ints, some))
