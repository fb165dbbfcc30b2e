-- One stratum more or less in a number and a sum of strata.
use Rattle.std.proofs.Common.{◌≡◌, ℕ, ◌+◌, ◌-◌, ◌*◌, ◌^◌, ◌<◌, ◌≤◌, List, ◌∷◌, length, arith}
use Rattle.std.proofs.lemmas.List.Elements.{All-tail, All-weaker}
use Rattle.std.proofs.lemmas.List.Sums.{sum_by-cons, sum_by-le}
use Rattle.std.proofs.lemmas.Nat.{div_below}
use Rattle.aq_agg.specs.StratumSums.{IsStratum, sixtieths, AreOf}

at_most : (s : ℕ × ℕ) → IsStratum s → sixtieths s ≤ 15300
at_most s is =
    let few : sixtieths s < 15301 = div_below (60 * s.0) s.1 15301 (omega (arith, is.0)) (let low = is.0 in let most = is.2 in omega (arith, low, most)) in
    omega (arith, few)

pub room : (bag : List (ℕ × ℕ)) (number sum more : ℕ) → AreOf bag number sum → length bag < 4294967295 → more ≤ 15300 → sum + more < 2 ^ 64
room bag number sum more of few small =
    let most = sum_by-le sixtieths 15300 bag (All-weaker IsStratum (λ s. sixtieths s ≤ 15300) at_most bag of.strata) in
    let whole : sum + more < 18446744073709551616 = (let a = of.sum_is in omega (arith, most, few, small, a)) in
    whole

pub taken : (rest : List (ℕ × ℕ)) (item : ℕ × ℕ) (number sum part : ℕ) → AreOf (item ∷ rest) number sum → part ≡ sixtieths item → AreOf rest (number - 1) (sum - part)
taken rest item number sum part of is = record {
  number_is = (let a = of.number_is in omega (arith, a));
  sum_is = (let a = of.sum_is in omega (arith, a, is, sum_by-cons sixtieths item rest));
  strata = All-tail IsStratum item rest of.strata;
  few = (let a = of.few in omega (arith, a));
}
