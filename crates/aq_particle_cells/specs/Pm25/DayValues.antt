-- The values of a quarter in a bag: their sum and number, the least and the greatest one. With the lemma that their order says nothing.
use Rattle.std.specs.Prelude.{◌≡◌, List, All, length, map, ℤ, neg_ℤ}
use Rattle.std.specs.List.Sorted.{IsPermutation}
use Rattle.std.proofs.lemmas.List.Sorted.{All-permutation, IsPermutation-map}
use Rattle.aq_agg.specs.AnyOrder as any
use Rattle.aq_agg.specs.Sums as sums
use Rattle.aq_rules.specs.Lists.{greatest, least, ranked, total}
use Rattle.aq_series.specs.DayCells.{IsParticle}
use Rattle.aq_particle_cells.specs.declared.pm25.day_values.DayValues.{DayValues}
use Rattle.aq_particle_cells.specs.declared.pm25.day_values.ValueSummary.{ValueSummary}

abbrev pub summary_of : List ℤ → ValueSummary
summary_of bag = record { sum = total bag; number = length bag; least = least bag; greatest = greatest bag }

-- what is kept of a bag of values of PM2.5; the least one is the greatest of the negated ones
pub record AreValuesOf (bag : List ℤ) (kept : DayValues) : Type 0 where
  pub sums : sums.AreOf bag kept.sums.sum kept.sums.number
  pub greatest_are : kept.greatest.ranked.values.items ≡ ranked bag
  pub least_are : kept.least.ranked.values.items ≡ ranked (map neg_ℤ bag)
  pub particles : All IsParticle bag

pub values-any_order : (a b : List ℤ) (kept : DayValues) → IsPermutation a b → AreValuesOf a kept → AreValuesOf b kept
values-any_order a b kept moved of = record {
  sums = any.sums-any_order a b kept.sums.sum kept.sums.number moved of.sums;
  greatest_are = any.ranks-any_order a b kept.greatest.ranked.values.items moved of.greatest_are;
  least_are = any.ranks-any_order (map neg_ℤ a) (map neg_ℤ b) kept.least.ranked.values.items (IsPermutation-map neg_ℤ a b moved) of.least_are;
  particles = All-permutation IsParticle a b moved of.particles;
}
