-- Estimates of PM10 quarters: sixtieths are exact, and samples of strata of their own give v * N / n.
use Rattle.std.proofs.Common.{◌≡◌, ℕ, zero, suc, ◌+◌, ◌*◌, ◌/◌, ◌<◌, ◌≤◌, Bool, true, false, cond, List, [], ◌∷◌, length, refl, sym, ap, ◌∙◌, arith}
use Rattle.std.specs.Prelude.{ℤ, pos, negsuc, ◌+ℤ◌, ◌*ℤ◌, ◌≤ℤ◌, ◌<ℤ◌, int_lt, int_le, Option, Some, None, ◌==◌, All, if◌then◌else◌}
use Rattle.std.specs.Int.{int_div_euclid}
use Rattle.std.specs.List.{sum_by, count_by}
use Rattle.std.proofs.lemmas.Bool.Decides.{nat_tests}
use Rattle.std.proofs.lemmas.Int.{ints}
use Rattle.std.proofs.lemmas.List.Elements.{All-head, All-tail}
use Rattle.std.proofs.lemmas.List.Sums.{sum_by-cons}
use Rattle.std.proofs.Math.Nat.{mul-div-mul_left, zero-lt-suc}
use Rattle.aq_base.specs.Decimal.{half_up}
use Rattle.aq_rules.specs.Particles.Pm10Estimate.{exceeds, sampled_strata, sixtieths_of, quarter_of_strata, quarter_estimate}

-- ---- sixtieths

whole_part_of : (k c : ℕ) → 1 ≤ k → k ≤ 6 → 60 * c / k * k ≡ 60 * c
whole_part_of zero c low high = absurd (omega arith)
whole_part_of (suc zero) c low high = omega arith
whole_part_of (suc (suc zero)) c low high = omega arith
whole_part_of (suc (suc (suc zero))) c low high = omega arith
whole_part_of (suc (suc (suc (suc zero)))) c low high = omega arith
whole_part_of (suc (suc (suc (suc (suc zero))))) c low high = omega arith
whole_part_of (suc (suc (suc (suc (suc (suc zero)))))) c low high = omega arith
whole_part_of (suc (suc (suc (suc (suc (suc (suc k))))))) c low high = absurd (omega arith)

pub sixtieths-exact : (values : List ℤ) → 1 ≤ length values → length values ≤ 6 → sixtieths_of values * length values ≡ 60 * count_by exceeds values
sixtieths-exact values low high = whole_part_of (length values) (count_by exceeds values) low high

-- ---- exceedances

-- twice the value and a hundred, over two hundred, is above 15 from 3200 on
above_fifteen : (z v : ℤ) → z ≡ (pos 2 *ℤ v) +ℤ pos 100 → int_lt (pos 15) (int_div_euclid z (pos 200)) ≡ int_le (pos 1550) v
above_fifteen (pos m) v is = by_test (int_le (pos 1550) v) refl
  where
    by_test : (b : Bool) → int_le (pos 1550) v ≡ b → int_lt (pos 15) (pos (m / 200)) ≡ b
    by_test true h =
        let high : pos 1550 ≤ℤ v = grind (arith, ints) in
        let many : 3200 ≤ m = omega (arith, ints, high, is) in
        let quotient : 15 < m / 200 = omega (arith, many) in
        grind (arith, ints, nat_tests)
    by_test false h =
        let low : v <ℤ pos 1550 = grind (arith, ints) in
        let few : m < 3200 = omega (arith, ints, low, is) in
        let quotient : m / 200 ≤ 15 = omega (arith, few) in
        grind (arith, ints, nat_tests)
above_fifteen (negsuc m) v is =
    let low : v <ℤ pos 1550 = omega (arith, ints, is) in
    let test : int_le (pos 1550) v ≡ false = grind (arith, ints) in
    sym test

-- rounded to the nearest 10 µg/m3, a value is above 150 from 155.0 on
pub exceeds-from : (value : ℤ) → exceeds value ≡ int_le (pos 1550) value
exceeds-from value = above_fifteen ((pos 2 *ℤ value) +ℤ pos 100) value refl

-- ---- half_up of a quotient, both sides times 60

half_up-sixty : (a b : ℕ) → half_up (pos (60 * a)) (pos (60 * b)) ≡ half_up (pos a) (pos b)
half_up-sixty a b =
    let top : 2 * (60 * a) + 60 * b ≡ 60 * (2 * a + b) = omega arith in
    let under : 2 * (60 * b) ≡ 60 * (2 * b) = omega arith in
    ap pos (rw (top, under) (mul-div-mul_left (2 * a + b) (2 * b) (zero-lt-suc 59)))

-- ---- strata of one sample at most

abbrev counted : List (List ℤ) → ℕ
counted strata = sum_by (count_by exceeds) strata

abbrev sampled : List (List ℤ) → ℕ
sampled strata = sum_by length strata

abbrev sixtieths : List (List ℤ) → ℕ
sixtieths strata = sum_by sixtieths_of (sampled_strata strata)

one_more : (b : Bool) → 60 * (0 + cond b 1 0) / 1 ≡ 60 * (0 + cond b 1 0)
one_more b = omega arith

single-strata : (strata : List (List ℤ)) → All (λ values. length values ≤ 1) strata → length (sampled_strata strata) ≡ sampled strata
single-strata [] single = refl
single-strata ([] ∷ strata) single =
    let rest = single-strata strata (All-tail (λ values. length values ≤ 1) [] strata single) in
    omega (arith, rest, sum_by-cons length [] strata)
single-strata ((v ∷ []) ∷ strata) single =
    let rest = single-strata strata (All-tail (λ values. length values ≤ 1) (v ∷ []) strata single) in
    omega (arith, rest, sum_by-cons length (v ∷ []) strata)
single-strata ((v ∷ w ∷ values) ∷ strata) single =
    let many : length (v ∷ w ∷ values) ≤ 1 = All-head (λ l. length l ≤ 1) (v ∷ w ∷ values) strata single in
    absurd (omega (arith, many))

single-sixtieths : (strata : List (List ℤ)) → All (λ values. length values ≤ 1) strata → sixtieths strata ≡ 60 * counted strata
single-sixtieths [] single = refl
single-sixtieths ([] ∷ strata) single =
    let rest = single-sixtieths strata (All-tail (λ values. length values ≤ 1) [] strata single) in
    omega (arith, rest, sum_by-cons (count_by exceeds) [] strata)
single-sixtieths ((v ∷ []) ∷ strata) single =
    let rest = single-sixtieths strata (All-tail (λ values. length values ≤ 1) (v ∷ []) strata single) in
    let first : sixtieths_of (v ∷ []) ≡ 60 * count_by exceeds (v ∷ []) = one_more (exceeds v) in
    omega (arith, rest, first, sum_by-cons sixtieths_of (v ∷ []) (sampled_strata strata), sum_by-cons (count_by exceeds) (v ∷ []) strata)
single-sixtieths ((v ∷ w ∷ values) ∷ strata) single =
    let many : length (v ∷ w ∷ values) ≤ 1 = All-head (λ l. length l ≤ 1) (v ∷ w ∷ values) strata single in
    absurd (omega (arith, many))

abbrev estimate_by : ℕ → ℕ → ℕ → Option ℤ
estimate_by days strata sums = if strata == 0 then None else Some (half_up (pos (100 * days * sums)) (pos (60 * strata)))

pub single-estimate : (days scheduled captured scheduled_exceedances : ℕ) (strata : List (List ℤ)) → All (λ values. length values ≤ 1) strata
    → quarter_estimate (quarter_of_strata days scheduled captured scheduled_exceedances strata)
    ≡ (if sum_by length strata == 0 then None else Some (half_up (pos (100 * (sum_by (count_by exceeds) strata * days))) (pos (sum_by length strata))))
single-estimate days scheduled captured scheduled_exceedances strata single =
    let number = single-strata strata single in
    let sums = single-sixtieths strata single in
    let turned : 100 * days * (60 * counted strata) ≡ 60 * (100 * (counted strata * days)) = grind arith in
    let first : estimate_by days (length (sampled_strata strata)) (sixtieths strata) ≡ estimate_by days (sampled strata) (60 * counted strata) =
    λ i. estimate_by days (number i) (sums i)
    in
    first
    ∙ ap (λ (z : ℤ). if sampled strata == 0 then None else Some z)
    (ap (λ n. half_up (pos n) (pos (60 * sampled strata))) turned ∙ half_up-sixty (100 * (counted strata * days)) (sampled strata))
