-- Sums of values in the range of PM2.5, and of copies of one.
use Rattle.std.proofs.Common.{◌≡◌, ℕ, zero, suc, ◌+◌, ◌*◌, ◌≤◌, replicate, ℤ, pos, negsuc, neg_ℤ, ◌+ℤ◌, ◌*ℤ◌, ◌≤ℤ◌, unsigned_abs, true, false, ◌&&◌, ap, ◌∙◌, arith, fold, FitsSigned}
use Rattle.std.specs.Prelude.{Option, Some, None, int_le, nat_le, is_some}
use Rattle.std.specs.Int.{w32}
use Rattle.std.specs.Option.{option_map_or}
use Rattle.std.proofs.lemmas.Bool.{and_parts}
use Rattle.std.proofs.lemmas.Bool.Decides.{nat_tests}
use Rattle.std.proofs.lemmas.Int.{ints}
use Rattle.std.proofs.Math.IntN.{suc_ℤ-*ℤ, *ℤ_comm, *ℤ-zero}
use Rattle.aq_base.specs.declared.monitor.Pollutant.TheVariants.{Pm25}
use Rattle.aq_rules.specs.Lists.{total}
use Rattle.aq_verdict.specs.QuarterlyMean.{IsMean}
use Rattle.aq_rules.specs.Kept.Summaries.{PmQuarter, KeepsPmQuarter, is_value}

times-more : (a : ℤ) (n : ℕ) → a *ℤ pos (suc n) ≡ (a *ℤ pos n) +ℤ a
times-more a n = *ℤ_comm a (pos (suc n)) ∙ suc_ℤ-*ℤ (pos n) a ∙ ap (λ (z : ℤ). z +ℤ a) (*ℤ_comm (pos n) a)

-- the sum of copies
total-from : (n : ℕ) (v s : ℤ) → fold (λ sum value. sum +ℤ value) s (replicate n v) ≡ s +ℤ (v *ℤ pos n)
total-from zero v s = rw (*ℤ-zero v) (omega (arith, ints))
total-from (suc n) v s = omega (arith, ints, total-from n v (s +ℤ v), times-more v n)

pub total-copies : (n : ℕ) (v : ℤ) → total (replicate n v) ≡ v *ℤ pos n
total-copies n v = omega (arith, ints, total-from n v (pos 0))

low-times : (a : ℤ) (x n : ℕ) → neg_ℤ (pos x) ≤ℤ a → neg_ℤ (pos (x * n)) ≤ℤ (a *ℤ pos n)
low-times a x zero h = rw (*ℤ-zero a) (omega (arith, ints))
low-times a x (suc n) h = let rest = low-times a x n h in omega (arith, ints, rest, times-more a n, h)

high-times : (a : ℤ) (x n : ℕ) → a ≤ℤ pos x → (a *ℤ pos n) ≤ℤ pos (x * n)
high-times a x zero h = rw (*ℤ-zero a) (omega (arith, ints))
high-times a x (suc n) h = let rest = high-times a x n h in omega (arith, ints, rest, times-more a n, h)

pub copies-within : (v : ℤ) (n : ℕ) → unsigned_abs v ≤ 99999 → unsigned_abs (v *ℤ pos n) ≤ 99999 * n
copies-within v n few =
    let low = low-times v 99999 n (omega (arith, ints, few)) in
    let high = high-times v 99999 n (omega (arith, ints, few)) in
    omega (arith, ints, low, high)

-- the sum of a quarter is within its days times the range
no-days : (n : ℕ) → false ≡ nat_le 1 n → n ≡ 0
no-days n h = grind (arith, nat_tests)

le-of : (x y : ℤ) → int_le x y ≡ true → x ≤ℤ y
le-of x y h = grind (arith, ints)

sum-by : (n : ℕ) (s : ℤ) (least greatest : Option ℤ) → is_some least ≡ nat_le 1 n → is_some greatest ≡ nat_le 1 n
    → is_value Pm25 least ≡ true → is_value Pm25 greatest ≡ true
    → (option_map_or (λ low. int_le (low *ℤ pos n) s) least true && option_map_or (λ high. int_le s (high *ℤ pos n)) greatest true) ≡ true
    → (n ≡ 0 → s ≡ pos 0) → unsigned_abs s ≤ 99999 * n
sum-by n s None greatest some_least some_greatest low high within none =
    let zero_days = no-days n some_least in
    let no_sum = none zero_days in
    omega (arith, ints, no_sum)
sum-by n s (Some low) None some_least some_greatest low_in high_in within none =
    let zero_days = no-days n some_greatest in
    let no_sum = none zero_days in
    omega (arith, ints, no_sum)
sum-by n s (Some low) (Some high) some_least some_greatest low_in high_in within none =
    let between = and_parts (int_le (low *ℤ pos n) s) (int_le s (high *ℤ pos n)) within in
    let above = le-of (low *ℤ pos n) s between.0 in
    let below = le-of s (high *ℤ pos n) between.1 in
    let least = le-of (negsuc 998) low (and_parts (int_le (negsuc 998) low) (int_le low (pos 99999)) low_in).0 in
    let most = le-of high (pos 99999) (and_parts (int_le (negsuc 998) high) (int_le high (pos 99999)) high_in).1 in
    let low_side = low-times low 999 n (omega (arith, ints, least)) in
    let high_side = high-times high 99999 n most in
    omega (arith, ints, above, below, low_side, high_side)

pub sum-within : (q : PmQuarter) → KeepsPmQuarter q → unsigned_abs q.sum ≤ 99999 * q.net_days
sum-within q keeps =
    sum-by q.net_days q.sum q.least q.greatest keeps.some_least keeps.some_greatest keeps.least_in_range keeps.greatest_in_range keeps.sum_within keeps.no_sum

pub is_mean-plain : (q : PmQuarter) → KeepsPmQuarter q → IsMean (q.sum, q.net_days)
is_mean-plain q keeps = record { days = omega (arith, keeps.net_days, keeps.creditable); sum = sum-within q keeps }

pub is_mean-filled : (q : PmQuarter) (v s : ℤ) (number n : ℕ) → KeepsPmQuarter q → unsigned_abs v ≤ 99999 → q.net_days + number ≤ 103 → s ≡ q.sum → n ≡ q.net_days
    → IsMean (s +ℤ (v *ℤ pos number), n + number)
is_mean-filled q v s number n keeps few within sum_is days_are =
    let own : unsigned_abs s ≤ 99999 * n = rw (sum_is, days_are) (sum-within q keeps) in
    let copied = copies-within v number few in
    record { days = omega (arith, within, days_are); sum = omega (arith, ints, own, copied) }

-- a quarter's sum, the copies and both together fit 32 bits
pub record CopiesFit (v s : ℤ) (number : ℕ) : Type 0 where
  pub value : FitsSigned w32 v
  pub count : FitsSigned w32 (pos number)
  pub copied : FitsSigned w32 (v *ℤ pos number)
  pub own : FitsSigned w32 s
  pub both : FitsSigned w32 (s +ℤ (v *ℤ pos number))

pub copies-fit : (q : PmQuarter) (v s : ℤ) (number : ℕ) → KeepsPmQuarter q → unsigned_abs v ≤ 99999 → q.net_days + number ≤ 103 → s ≡ q.sum → CopiesFit v s number
copies-fit q v s number keeps few within sum_is =
    let copies = copies-within v number few in
    let sum = sum-within q keeps in
    record {
      value = omega (arith, ints, few);
      count = omega (arith, ints, within);
      copied = omega (arith, ints, copies, within);
      own = rw sum_is (omega (arith, ints, sum, within));
      both = rw sum_is (omega (arith, ints, copies, sum, within));
    }
