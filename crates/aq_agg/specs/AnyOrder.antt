-- Lemmas, no definition: what is kept of a bag is kept of it in any order.
use Rattle.std.proofs.Common.{◌≡◌, ℕ, List, ◌∙◌, sym, ap, ℤ, false}
use Rattle.std.specs.List.Sorted.{IsPermutation}
use Rattle.std.proofs.lemmas.List.{map-id}
use Rattle.std.proofs.lemmas.List.Sorted.{length_permutation, All-permutation, sum_by-IsPermutation}
use Rattle.aq_rules.specs.Lists.{total, ranked}
use Rattle.aq_rules.proofs.DaysInOrder.{total-any_order}
use Rattle.aq_rules.proofs.Ranked.{ranked-in_any_order}
use Rattle.aq_agg.specs.Sums.{IsWhole32}
use Rattle.aq_agg.specs.Sums as sums
use Rattle.aq_agg.specs.StratumSums.{IsStratum, sixtieths}
use Rattle.aq_agg.specs.StratumSums as strata

total-in_any_order : (a b : List ℤ) → IsPermutation a b → total a ≡ total b
total-in_any_order a b moved =
    sym (ap total (map-id a)) ∙ total-any_order (λ (value : ℤ). value) (λ value. false) a b moved ∙ ap total (map-id b)

pub sums-any_order : (a b : List ℤ) (sum : ℤ) (number : ℕ) → IsPermutation a b → sums.AreOf a sum number → sums.AreOf b sum number
sums-any_order a b sum number moved of = record {
  sum_is = of.sum_is ∙ total-in_any_order a b moved;
  number_is = of.number_is ∙ sym (length_permutation a b moved);
  values = All-permutation IsWhole32 a b moved of.values;
  few = of.few;
}

pub ranks-any_order : (a b values : List ℤ) → IsPermutation a b → values ≡ ranked a → values ≡ ranked b
ranks-any_order a b values moved are = are ∙ ranked-in_any_order a b moved

pub strata-any_order : (a b : List (ℕ × ℕ)) (number sum : ℕ) → IsPermutation a b → strata.AreOf a number sum → strata.AreOf b number sum
strata-any_order a b number sum moved of = record {
  number_is = of.number_is ∙ sym (length_permutation a b moved);
  sum_is = of.sum_is ∙ sym (sum_by-IsPermutation sixtieths a b moved);
  strata = All-permutation IsStratum a b moved of.strata;
  few = of.few;
}
