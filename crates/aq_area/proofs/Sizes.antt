-- How large the parts of a year are.
use Rattle.std.proofs.Common.{◌≡◌, ℕ, ◌+◌, ◌*◌, ◌≤◌, true, false, ◌&&◌, List, [], ◌∷◌, ◌++◌, arith}
use Rattle.std.specs.Prelude.{ℤ, pos, ◌*ℤ◌, ◌≤ℤ◌, int_le, nat_le, is_some, unsigned_abs, Option, Some, None}
use Rattle.std.specs.List.{list_all}
use Rattle.std.specs.Option.{IfSome, option_map_or}
use Rattle.std.proofs.lemmas.Int.{ints, unsigned_abs-mul}
use Rattle.std.proofs.lemmas.Bool.{and_parts}
use Rattle.std.proofs.lemmas.Bool.Decides.{nat_tests}
use Rattle.std.proofs.Math.Nat.{mul-le-mul_right}
use Rattle.aq_base.specs.declared.monitor.Pollutant.TheVariants.{Pm25}
use Rattle.aq_rules.specs.Lines.Spellings.{is_in_range}
use Rattle.aq_rules.specs.Kept.Summaries.{PmQuarter, PmYear, KeepsPmQuarter, KeepsPmYear, KeepsPm10Year, is_value}
use Rattle.aq_rules.specs.Kept.SummaryVerdicts.{kept_counted, kept_percentile}
use Rattle.aq_rules.specs.Particles.Pm10Estimate.{Pm10Quarter, quarter_estimate, year_of_quarters}
use Rattle.aq_rules.proofs.Elements.{Every, every-append}
use Rattle.aq_rules.proofs.Held.{IfHeld}
use Rattle.aq_rules.proofs.PmHeld.{In, percentile-in}
use Rattle.aq_rules.proofs.Pm10Held.{year_estimate-held}
use Rattle.aq_rules.proofs.ValueRange.{from_test}
use Rattle.aq_area.specs.NextYear.{IsPart}
use Rattle.aq_area.specs.ExactMeans.{IsQuarterly}

held-part : (low high : ℕ) (o : Option ℤ) → low ≤ 99999 → high ≤ 99999 → IfHeld low high o → IfSome o IsPart
held-part low high None a b h = tt
held-part low high (Some v) a b h = omega (arith, ints, a, b, h.0, h.1)

every-in : (values : List ℤ) → list_all (is_in_range Pm25) values ≡ true → Every In values
every-in [] all = tt
every-in (v ∷ vs) all =
    let parts = and_parts (is_in_range Pm25 v) (list_all (is_in_range Pm25) vs) all in
    (from_test 99999 v parts.0, every-in vs parts.1)

pub percentile-part : (year : PmYear) → KeepsPmYear year → IfSome (kept_percentile year) IsPart
percentile-part year keeps =
    held-part 999 99999 (kept_percentile year) (omega arith) (omega arith)
    (percentile-in (year.top ++ []) (kept_counted year.quarters + 0) (every-append In year.top [] (every-in year.top keeps.top_in_range) tt))

pub estimate-part : (quarters : List Pm10Quarter) → KeepsPm10Year quarters → IfSome (year_of_quarters quarter_estimate quarters) IsPart
estimate-part quarters keeps = held-part 0 36800 (year_of_quarters quarter_estimate quarters) (omega arith) (omega arith) (year_estimate-held quarters keeps)

-- ---- the sum of a quarter

le-of : (x y : ℤ) → int_le x y ≡ true → x ≤ℤ y
le-of x y h = grind (arith, ints)

times-size : (v : ℤ) (n : ℕ) → unsigned_abs v ≤ 99999 → unsigned_abs (v *ℤ pos n) ≤ 99999 * n
times-size v n few = rw (unsigned_abs-mul v (pos n)) (mul-le-mul_right n few)

no-days : (n : ℕ) → false ≡ nat_le 1 n → n ≡ 0
no-days n h = grind (arith, nat_tests)

value-size : (v : ℤ) → is_value Pm25 (Some v) ≡ true → unsigned_abs v ≤ 99999
value-size v h = let range = from_test 99999 v h in omega (arith, ints, range.0, range.1)

sum-size : (n : ℕ) (s : ℤ) (least greatest : Option ℤ) → is_some least ≡ nat_le 1 n → is_some greatest ≡ nat_le 1 n
    → is_value Pm25 least ≡ true → is_value Pm25 greatest ≡ true
    → (option_map_or (λ low. int_le (low *ℤ pos n) s) least true && option_map_or (λ high. int_le s (high *ℤ pos n)) greatest true) ≡ true
    → (n ≡ 0 → s ≡ pos 0) → unsigned_abs s ≤ 99999 * n
sum-size n s None greatest some_least some_greatest low_in high_in within none =
    let nothing = none (no-days n some_least) in
    omega (arith, ints, nothing)
sum-size n s (Some low) None some_least some_greatest low_in high_in within none =
    let nothing = none (no-days n some_greatest) in
    omega (arith, ints, nothing)
sum-size n s (Some low) (Some high) some_least some_greatest low_in high_in within none =
    let between = and_parts (int_le (low *ℤ pos n) s) (int_le s (high *ℤ pos n)) within in
    let above = le-of (low *ℤ pos n) s between.0 in
    let below = le-of s (high *ℤ pos n) between.1 in
    let low_side = times-size low n (value-size low low_in) in
    let high_side = times-size high n (value-size high high_in) in
    omega (arith, ints, above, below, low_side, high_side)

pub quarterly-size : (q : PmQuarter) → KeepsPmQuarter q → 1 ≤ q.net_days → IsQuarterly (q.sum, q.net_days)
quarterly-size q keeps some = record {
  some = some;
  days = omega (arith, keeps.net_days, keeps.creditable);
  sum = sum-size q.net_days q.sum q.least q.greatest keeps.some_least keeps.some_greatest keeps.least_in_range keeps.greatest_in_range keeps.sum_within keeps.no_sum;
}
