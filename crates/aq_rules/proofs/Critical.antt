-- The critical value is the greatest whole number with which the level is kept.
use Rattle.std.proofs.Common.{◌≡◌, ℕ, zero, suc, ◌+◌, ◌*◌, ◌/◌, ◌<◌, ◌≤◌, Bool, true, false, List, [], ◌∷◌, length, map, refl, ap, ◌∙◌, lit≤, subst, arith}
use Rattle.std.specs.Prelude.{All, ⊤, nat_le, ◌&&◌, ℤ, pos, negsuc, neg_ℤ, ◌≤ℤ◌, ◌<ℤ◌, ◌+ℤ◌, ◌*ℤ◌, int_le, int_lt, Option, Some, None, option_map, if◌then◌else◌}
use Rattle.std.specs.Int.{int_div_euclid}
use Rattle.std.specs.List.{list_all}
use Rattle.std.proofs.lemmas.Bool.{le-leb, and_parts, leb-true}
use Rattle.std.proofs.lemmas.List.{length-map}
use Rattle.std.proofs.lemmas.List.Elements.{All-head, All-tail}
use Rattle.std.proofs.lemmas.Bool.Decides.{nat_tests}
use Rattle.std.proofs.lemmas.Int.{ints}
use borrow.Author.Differences.{product_is}
use Rattle.std.proofs.Math.IntN.{◌-ℤ◌, *ℤ_comm, *ℤ-zero, zero-*ℤ}
use Rattle.std.proofs.Math.Nat.{div-mul-le_self, lt-div-mul-add, one-le-mul}
use Rattle.aq_base.specs.Decimal.{half_up, truncated}
use Rattle.aq_base.specs.declared.standard.Standard.{Standard}
use Rattle.aq_base.specs.declared.standard.Standard.TheVariants.{Ozone2015, Annual2012, AnnualSecondary, Annual2024, Daily2006, Pm10Of1987}
use Rattle.aq_rules.specs.Standards.{level_of, is_at_or_below}
use Rattle.aq_rules.specs.DesignValues.{DesignValue, OfOzone, OfAnnual, OfDaily, OfPm10}
use Rattle.aq_rules.specs.Kept.Summaries.{PmYear}
use Rattle.aq_rules.specs.Kept.SummaryVerdicts.{of_summaries, kept_percentile}
use Rattle.aq_rules.specs.Ozone.OzoneYear.{OzoneYear}
use Rattle.aq_rules.specs.Particles.Pm10Estimate.{quarter_estimate, year_of_quarters}
use Rattle.aq_rules.proofs.Elements.{Every}
use Rattle.aq_rules.specs.Lists.{total}
use Rattle.aq_rules.specs.Particles.Means.{Fraction, sum_of_fractions, has_days, mean_of_means}
use Rattle.aq_rules.specs.Areas.CriticalValue.{LastTwo, Fourths, Means, Percentiles, Estimates, HasDays, HasQuarters, IsCritical, of_last_two, exact_mean_of, exact_mean, last_two, keeps_level, critical_with, critical, mean_below}
use Rattle.aq_rules.proofs.Held.{times_more}

-- ---- products with a whole number

scale-le : (a b : ℤ) (m : ℕ) → a ≤ℤ b → (a *ℤ pos m) ≤ℤ (b *ℤ pos m)
scale-le a b zero h = rw (*ℤ-zero a, *ℤ-zero b) (omega (arith, ints))
scale-le a b (suc m) h = let rest = scale-le a b m h in omega (arith, ints, rest, times_more a m, times_more b m, h)

scale-add : (a b : ℤ) (m : ℕ) → (a +ℤ b) *ℤ pos m ≡ (a *ℤ pos m) +ℤ (b *ℤ pos m)
scale-add a b zero = rw (*ℤ-zero (a +ℤ b), *ℤ-zero a, *ℤ-zero b) (omega (arith, ints))
scale-add a b (suc m) = let rest = scale-add a b m in omega (arith, ints, rest, times_more (a +ℤ b) m, times_more a m, times_more b m)

scale-one : (a : ℤ) → a *ℤ pos 1 ≡ a
scale-one a = omega (arith, ints, times_more a 0, *ℤ-zero a)

one-more : (a : ℤ) (m : ℕ) → (a +ℤ pos 1) *ℤ pos m ≡ (a *ℤ pos m) +ℤ pos m
one-more a zero = rw (*ℤ-zero (a +ℤ pos 1), *ℤ-zero a) (omega (arith, ints))
one-more a (suc m) = let rest = one-more a m in omega (arith, ints, rest, times_more (a +ℤ pos 1) m, times_more a m)

twice : (a : ℤ) (m : ℕ) → a *ℤ pos (2 * m) ≡ (a *ℤ pos m) +ℤ (a *ℤ pos m)
twice a zero = rw (*ℤ-zero a) (omega (arith, ints))
twice a (suc m) =
    let rest = twice a m in
    let more : 2 * suc m ≡ suc (suc (2 * m)) = omega arith in
    rw more (omega (arith, ints, rest, times_more a m, times_more a (2 * m), times_more a (suc (2 * m))))

negative-times : (k m : ℕ) → negsuc k *ℤ pos m ≡ neg_ℤ (pos (suc k * m))
negative-times k zero = rw (*ℤ-zero (negsuc k)) (omega (arith, ints))
negative-times k (suc m) = let rest = negative-times k m in omega (arith, ints, rest, times_more (negsuc k) m)

-- ---- quotients

-- a quotient times the divisor is at most the number, and less than the divisor below it
quotient-bounds : (z : ℤ) (m : ℕ) → 0 < m
    → ((int_div_euclid z (pos m) *ℤ pos m) ≤ℤ z) × (z <ℤ ((int_div_euclid z (pos m) *ℤ pos m) +ℤ pos m))
quotient-bounds (pos a) m some =
    let low : a / m * m ≤ a = div-mul-le_self a m in
    let high : a < a / m * m + m = lt-div-mul-add some in
    (omega (arith, ints, low), omega (arith, ints, high))
quotient-bounds (negsuc a) m some =
    let low : a / m * m ≤ a = div-mul-le_self a m in
    let high : a < a / m * m + m = lt-div-mul-add some in
    (omega (arith, ints, high, negative-times (a / m) m), omega (arith, ints, low, negative-times (a / m) m))

-- a number q, of which twice b is a fraction of 2 s + b as above, is at or below a level as long as 2 s is below (2 level + 1) b
within-test : (s q level : ℤ) (b : ℕ)
    → (q *ℤ pos (2 * b)) ≤ℤ ((pos 2 *ℤ s) +ℤ pos b) → ((pos 2 *ℤ s) +ℤ pos b) <ℤ ((q *ℤ pos (2 * b)) +ℤ pos (2 * b))
    → (t : Bool) → int_le q level ≡ t → t ≡ int_lt (s +ℤ s) (((level *ℤ pos b) +ℤ (level *ℤ pos b)) +ℤ pos b)
within-test s q level b least most true h =
    let low : q ≤ℤ level = grind (arith, ints) in
    let scaled = scale-le q level b low in
    let less : (s +ℤ s) <ℤ (((level *ℤ pos b) +ℤ (level *ℤ pos b)) +ℤ pos b) = omega (arith, ints, most, twice q b, scaled) in
    grind (arith, ints, less)
within-test s q level b least most false h =
    let high : (level +ℤ pos 1) ≤ℤ q = grind (arith, ints) in
    let scaled = scale-le (level +ℤ pos 1) q b high in
    let more : (((level *ℤ pos b) +ℤ (level *ℤ pos b)) +ℤ pos b) ≤ℤ (s +ℤ s) = omega (arith, ints, least, twice q b, scaled, one-more level b) in
    grind (arith, ints, more)

-- rounded half up, a quotient is at or below a level as long as it is below the level and a half
pub rounded-kept : (s : ℤ) (b : ℕ) (level : ℤ) → 0 < b
    → int_le (half_up s (pos b)) level ≡ int_lt (s +ℤ s) (((level *ℤ pos b) +ℤ (level *ℤ pos b)) +ℤ pos b)
rounded-kept s b level some =
    let bounds = quotient-bounds ((pos 2 *ℤ s) +ℤ pos b) (2 * b) (omega arith) in
    within-test s (half_up s (pos b)) level b bounds.0 bounds.1 (int_le (half_up s (pos b)) level) refl

-- cut, a third is at or below a level as long as the sum is below three times the next one
pub cut-kept : (z : ℤ) (level : ℕ) → int_le (truncated z (pos 3)) (pos level) ≡ int_lt z (pos (3 * level + 3))
cut-kept (pos s) level = by_test (int_lt (pos s) (pos (3 * level + 3))) refl
  where
    by_test : (t : Bool) → int_lt (pos s) (pos (3 * level + 3)) ≡ t → int_le (pos (s / 3)) (pos level) ≡ t
    by_test true h =
        let few : s < 3 * level + 3 = grind (arith, ints, nat_tests) in
        let third : s / 3 ≤ level = omega (arith, few) in
        grind (arith, ints, nat_tests)
    by_test false h =
        let many : 3 * level + 3 ≤ s = grind (arith, ints, nat_tests) in
        let third : level < s / 3 = omega (arith, many) in
        grind (arith, ints, nat_tests)
cut-kept (negsuc s) level =
    let low : truncated (negsuc s) (pos 3) ≤ℤ pos level = omega (arith, ints) in
    let test : int_le (truncated (negsuc s) (pos 3)) (pos level) ≡ true = grind (arith, ints, low) in
    test

-- ---- the critical value of each standard

-- a test that stops at a bound stops at the critical value
below-bound : (sum bound : ℤ) → sum <ℤ bound → int_lt sum bound ≡ true
below-bound sum bound h = grind (arith, ints, h)

beyond-bound : (sum bound : ℤ) → bound ≤ℤ sum → int_lt sum bound ≡ false
beyond-bound sum bound h = grind (arith, ints, h)

pub fourths-critical : (level : ℕ) (before last : ℤ) → IsCritical (pos level) (Fourths before last) (critical_with (pos level) (Fourths before last))
fourths-critical level before last =
    let next : ℤ = critical_with (pos level) (Fourths before last) in
    let within : ((before +ℤ last) +ℤ next) <ℤ pos (3 * level + 3) = omega (arith, ints) in
    record {
      kept = cut-kept ((before +ℤ last) +ℤ next) level ∙ below-bound ((before +ℤ last) +ℤ next) (pos (3 * level + 3)) within;
      greatest = λ more above.
          let beyond : pos (3 * level + 3) ≤ℤ ((before +ℤ last) +ℤ more) = omega (arith, ints, above) in
          cut-kept ((before +ℤ last) +ℤ more) level ∙ beyond-bound ((before +ℤ last) +ℤ more) (pos (3 * level + 3)) beyond;
    }

-- twice the level times a divisor, and the divisor
abbrev bound : ℤ → ℕ → ℤ
bound level b = ((level *ℤ pos b) +ℤ (level *ℤ pos b)) +ℤ pos b

pub percentiles-critical : (level before last : ℤ) → IsCritical level (Percentiles before last) (critical_with level (Percentiles before last))
percentiles-critical level before last =
    let thirty : pos 30 *ℤ level ≡ level *ℤ pos 30 = *ℤ_comm (pos 30) level in
    let next : ℤ = critical_with level (Percentiles before last) in
    let sum : ℤ = (before +ℤ last) +ℤ next in
    let within : (sum +ℤ sum) <ℤ bound level 30 = omega (arith, ints, thirty) in
    record {
      kept = rounded-kept sum 30 level (omega arith) ∙ below-bound (sum +ℤ sum) (bound level 30) within;
      greatest = λ more above.
          let all : ℤ = (before +ℤ last) +ℤ more in
          let beyond : bound level 30 ≤ℤ (all +ℤ all) = omega (arith, ints, thirty, above) in
          rounded-kept all 30 level (omega arith) ∙ beyond-bound (all +ℤ all) (bound level 30) beyond;
    }

pub estimates-critical : (level before last : ℤ) → IsCritical level (Estimates before last) (critical_with level (Estimates before last))
estimates-critical level before last =
    let three : pos 3 *ℤ level ≡ level *ℤ pos 3 = *ℤ_comm (pos 3) level in
    let next : ℤ = critical_with level (Estimates before last) in
    let sum : ℤ = total (before ∷ last ∷ next ∷ []) in
    let within : (sum +ℤ sum) <ℤ bound level 3 = omega (arith, ints, three) in
    record {
      kept = rounded-kept sum 3 level (omega arith) ∙ below-bound (sum +ℤ sum) (bound level 3) within;
      greatest = λ more above.
          let all : ℤ = total (before ∷ last ∷ more ∷ []) in
          let beyond : bound level 3 ≤ℤ (all +ℤ all) = omega (arith, ints, three, above) in
          rounded-kept all 3 level (omega arith) ∙ beyond-bound (all +ℤ all) (bound level 3) beyond;
    }

-- ---- annual means: the sum of three fractions, of which the last is whole

scale-scale : (a : ℤ) (m n : ℕ) → (a *ℤ pos m) *ℤ pos n ≡ a *ℤ pos (m * n)
scale-scale a m n =
    omega (arith, ints, ap (λ z. z * n) (product_is a (pos m)).0, ap (λ z. z * n) (product_is a (pos m)).1)

with_whole : (x y t : ℤ) (m n : ℕ)
    → (x *ℤ pos (n * (1 * 1))) +ℤ (((y *ℤ pos (1 * 1)) +ℤ (((t *ℤ pos 1) +ℤ (pos 0 *ℤ pos 1)) *ℤ pos n)) *ℤ pos m)
    ≡ ((x *ℤ pos (n * 1)) +ℤ (((y *ℤ pos 1) +ℤ (pos 0 *ℤ pos n)) *ℤ pos m)) +ℤ (t *ℤ pos (m * (n * 1)))
with_whole x y t m n =
    let whole : (t *ℤ pos 1) +ℤ (pos 0 *ℤ pos 1) ≡ t = omega (arith, ints, scale-one t) in
    let nothing : pos 0 *ℤ pos n ≡ pos 0 = zero-*ℤ (pos n) in
    let apart : ((y *ℤ pos 1) +ℤ (t *ℤ pos n)) *ℤ pos m ≡ ((y *ℤ pos 1) *ℤ pos m) +ℤ ((t *ℤ pos n) *ℤ pos m) = scale-add (y *ℤ pos 1) (t *ℤ pos n) m in
    let alone : ((y *ℤ pos 1) +ℤ pos 0) *ℤ pos m ≡ (y *ℤ pos 1) *ℤ pos m = ap (λ z. z *ℤ pos m) (omega (arith, ints)) in
    let turned : n * m ≡ m * (n * 1) = omega arith in
    let scaled : (t *ℤ pos n) *ℤ pos m ≡ t *ℤ pos (m * (n * 1)) = scale-scale t n m ∙ ap (λ k. t *ℤ pos k) turned in
    let same : x *ℤ pos (n * (1 * 1)) ≡ x *ℤ pos (n * 1) = refl in
    rw (whole, nothing) (omega (arith, ints, apart, alone, scaled, same))

-- the level is kept with two means and a next one as long as twice the sum of the three is below the bound
module _ (level : ℤ) (before last : Fraction) (some_before : 1 ≤ before.1) (some_last : 1 ≤ last.1) where
  abbrev two : Fraction
  two = sum_of_fractions (before ∷ last ∷ [])

  abbrev sum_with : ℤ → ℤ
  sum_with next = two.0 +ℤ (next *ℤ pos two.1)

  some_two : 1 ≤ two.1
  some_two = one-le-mul some_before (one-le-mul some_last (lit≤ tt))

  keeps-means : (next : ℤ) → keeps_level level (Means before last) next ≡ int_lt (sum_with next +ℤ sum_with next) (bound level (3 * two.1))
  keeps-means next =
      let first : nat_le 1 before.1 ≡ true = le-leb 1 before.1 some_before in
      let second : nat_le 1 last.1 ≡ true = le-leb 1 last.1 some_last in
      let sums : (sum_of_fractions (before ∷ last ∷ (next, 1) ∷ [])).0 ≡ sum_with next = with_whole before.0 last.0 next before.1 last.1 in
      let value : keeps_level level (Means before last) next ≡ int_le (half_up (sum_with next) (pos (3 * two.1))) level =
      λ i. is_at_or_below level (if first i && (second i && true) then Some (half_up (sums i) (pos (3 * two.1))) else None)
      in
      value ∙ rounded-kept (sum_with next) (3 * two.1) level (omega (arith, some_two))

  odd : (m : ℕ) → ((pos 2 *ℤ level) +ℤ pos 1) *ℤ pos m ≡ bound level m
  odd m =
      let twofold : pos 2 *ℤ level ≡ level +ℤ level = omega (arith, ints) in
      one-more (pos 2 *ℤ level) m ∙ ap (λ z. (z *ℤ pos m) +ℤ pos m) twofold ∙ ap (λ z. z +ℤ pos m) (scale-add level level m)

  pub means-critical : IsCritical level (Means before last) (critical_with level (Means before last))
  means-critical =
      let next : ℤ = mean_below level two in
      let bounds = quotient-bounds (((((pos 2 *ℤ level) +ℤ pos 1) *ℤ pos (3 * two.1)) -ℤ (pos 2 *ℤ two.0)) -ℤ pos 1) (2 * two.1) (omega (arith, some_two)) in
      let within : (sum_with next +ℤ sum_with next) <ℤ bound level (3 * two.1) =
      omega (arith, ints, bounds.0, twice next two.1, odd (3 * two.1))
      in
      record {
        kept = keeps-means next ∙ below-bound (sum_with next +ℤ sum_with next) (bound level (3 * two.1)) within;
        greatest = λ more above.
            let high : (next +ℤ pos 1) ≤ℤ more = omega (arith, ints, above) in
            let beyond : bound level (3 * two.1) ≤ℤ (sum_with more +ℤ sum_with more) =
            omega (arith, ints, bounds.1, twice next two.1, odd (3 * two.1), one-more next two.1, scale-le (next +ℤ pos 1) more two.1 high)
            in
            keeps-means more ∙ beyond-bound (sum_with more +ℤ sum_with more) (bound level (3 * two.1)) beyond;
      }

-- ---- of any standard

pub critical-of : (level : ℕ) (parts : LastTwo) → HasDays parts → IsCritical (pos level) parts (critical_with (pos level) parts)
critical-of level (Fourths before last) days = fourths-critical level before last
critical-of level (Means before last) days = means-critical (pos level) before last days.0 days.1
critical-of level (Percentiles before last) days = percentiles-critical (pos level) before last
critical-of level (Estimates before last) days = estimates-critical (pos level) before last

of-standard : (standard : Standard) (parts : LastTwo) → HasDays parts → IsCritical (level_of standard) parts (critical_with (level_of standard) parts)
of-standard Ozone2015 parts days = critical-of 70 parts days
of-standard Annual2012 parts days = critical-of 120 parts days
of-standard AnnualSecondary parts days = critical-of 150 parts days
of-standard Annual2024 parts days = critical-of 90 parts days
of-standard Daily2006 parts days = critical-of 35 parts days
of-standard Pm10Of1987 parts days = critical-of 10 parts days

-- ---- exact means

some-days : (means : List Fraction) → list_all has_days means ≡ true → 1 ≤ (sum_of_fractions means).1
some-days [] all = lit≤ tt
some-days (mean ∷ means) all =
    let parts = and_parts (has_days mean) (list_all has_days means) all in
    one-le-mul (leb-true 1 mean.1 parts.0) (some-days means parts.1)

exact-days : (means : List Fraction) (mean : Fraction) → 1 ≤ length means → exact_mean_of means ≡ Some mean → 1 ≤ mean.1
exact-days means mean some is = by_test (list_all has_days means) refl is
  where
    by_test : (t : Bool) → list_all has_days means ≡ t
        → (if t then Some ((sum_of_fractions means).0, length means * (sum_of_fractions means).1) else None) ≡ Some mean → 1 ≤ mean.1
    by_test false all is = cc
    by_test true all is =
        let most : 1 ≤ length means * (sum_of_fractions means).1 = one-le-mul some (some-days means all) in
        let same : ((sum_of_fractions means).0, length means * (sum_of_fractions means).1) ≡ mean = cc in
        subst (λ (f : Fraction). 1 ≤ f.1) same most

pub rounded-exact : (means : List Fraction) → mean_of_means means ≡ option_map (λ (mean : Fraction). half_up mean.0 (pos mean.1)) (exact_mean_of means)
rounded-exact means = by_test (list_all has_days means)
  where
    by_test : (t : Bool) → (if t then Some (half_up (sum_of_fractions means).0 (pos (length means * (sum_of_fractions means).1))) else None)
        ≡ option_map (λ (mean : Fraction). half_up mean.0 (pos mean.1)) (if t then Some ((sum_of_fractions means).0, length means * (sum_of_fractions means).1) else None)
    by_test true = refl
    by_test false = refl

-- a part, if there is one, has days
abbrev IfDays : Option Fraction → Type 0
IfDays None = ⊤
IfDays (Some mean) = 1 ≤ mean.1

year-days : (year : PmYear) → length year.quarters ≡ 4 → IfDays (exact_mean year)
year-days year four = by_mean (exact_mean year) refl
  where
    by_mean : (o : Option Fraction) → exact_mean year ≡ o → IfDays o
    by_mean None is = tt
    by_mean (Some mean) is =
        exact-days (map (of_summaries.mean_with []) year.quarters) mean (omega (arith, four, length-map year.quarters (of_summaries.mean_with []))) is

years-days : (years : List PmYear) → All (λ (year : PmYear). length year.quarters ≡ 4) years → Every IfDays (map exact_mean years)
years-days [] four = tt
years-days (year ∷ years) four =
    (year-days year (All-head (λ (year : PmYear). length year.quarters ≡ 4) year years four), years-days years (All-tail (λ (year : PmYear). length year.quarters ≡ 4) year years four))

means-days : (options : List (Option Fraction)) (parts : LastTwo) → Every IfDays options → of_last_two Means options ≡ Some parts → HasDays parts
means-days [] parts every is = cc
means-days (o ∷ []) parts every is = cc
means-days (o ∷ None ∷ options) parts every is = cc
means-days (o ∷ Some before ∷ []) parts every is = cc
means-days (o ∷ Some before ∷ None ∷ options) parts every is = cc
means-days (o ∷ Some before ∷ Some last ∷ []) parts every is =
    let same : Means before last ≡ parts = cc in
    subst HasDays same (every.1.0, every.1.1.0)
means-days (o ∷ Some before ∷ Some last ∷ p ∷ options) parts every is = cc

-- the other parts have no denominators
numbers-days : (make : ℤ → ℤ → LastTwo) → ((before last : ℤ) → HasDays (make before last)) → (options : List (Option ℤ)) (parts : LastTwo)
    → of_last_two make options ≡ Some parts → HasDays parts
numbers-days make days [] parts is = cc
numbers-days make days (o ∷ []) parts is = cc
numbers-days make days (o ∷ None ∷ options) parts is = cc
numbers-days make days (o ∷ Some before ∷ []) parts is = cc
numbers-days make days (o ∷ Some before ∷ None ∷ options) parts is = cc
numbers-days make days (o ∷ Some before ∷ Some last ∷ []) parts is =
    let same : make before last ≡ parts = cc in
    subst HasDays same (days before last)
numbers-days make days (o ∷ Some before ∷ Some last ∷ p ∷ options) parts is = cc

last_two-days : (value : DesignValue) (parts : LastTwo) → HasQuarters value → last_two value ≡ Some parts → HasDays parts
last_two-days (OfOzone years design) parts four is = numbers-days Fourths (λ before last. tt) (map (λ (year : OzoneYear). year.fourth) years) parts is
last_two-days (OfAnnual years design) parts four is = means-days (map exact_mean years) parts (years-days years four) is
last_two-days (OfDaily years design) parts four is = numbers-days Percentiles (λ before last. tt) (map kept_percentile years) parts is
last_two-days (OfPm10 years design) parts four is = numbers-days Estimates (λ before last. tt) (map (year_of_quarters quarter_estimate) years) parts is

pub critical-greatest : (standard : Standard) (value : DesignValue) (parts : LastTwo) → HasQuarters value → last_two value ≡ Some parts
    → (critical standard value ≡ Some (critical_with (level_of standard) parts)) × IsCritical (level_of standard) parts (critical_with (level_of standard) parts)
unfolding critical
critical-greatest standard value parts four is =
    (ap (option_map (critical_with (level_of standard))) is, of-standard standard parts (last_two-days value parts four is))
