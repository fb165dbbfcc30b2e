-- The strata of a quarter in a bag: how many, their sixtieths, samples and exceedances. With the lemma that their order says nothing.
use Rattle.std.proofs.Common.{◌∙◌, sym}
use Rattle.std.specs.Prelude.{◌≡◌, ℕ, List, length, sum_by}
use Rattle.std.specs.List.Sorted.{IsPermutation}
use Rattle.std.proofs.lemmas.List.Sorted.{sum_by-IsPermutation}
use Rattle.aq_agg.specs.AnyOrder as any
use Rattle.aq_agg.specs.StratumSums as sums
use Rattle.aq_agg.specs.StratumSums.{sixtieths}
use Rattle.aq_particle_cells.specs.declared.pm10.strata_totals.StrataSummary.{StrataSummary}
use Rattle.aq_particle_cells.specs.declared.pm10.strata_totals.StrataTotals.{StrataTotals}

-- how many samples of a stratum exceed, and how many it has
abbrev pub exceeding : ℕ × ℕ → ℕ
exceeding stratum = stratum.0

abbrev pub sampled : ℕ × ℕ → ℕ
sampled stratum = stratum.1

abbrev pub strata_summary : List (ℕ × ℕ) → StrataSummary
strata_summary bag = record { strata = length bag; sixtieths = sum_by sixtieths bag; samples = sum_by sampled bag; exceedances = sum_by exceeding bag }

-- what is kept of a bag of strata
pub record AreTotalsOf (bag : List (ℕ × ℕ)) (kept : StrataTotals) : Type 0 where
  pub sum : sums.AreOf bag kept.sum.number kept.sum.sum
  pub samples_are : kept.samples ≡ sum_by sampled bag
  pub exceedances_are : kept.exceedances ≡ sum_by exceeding bag

pub totals-any_order : (a b : List (ℕ × ℕ)) (kept : StrataTotals) → IsPermutation a b → AreTotalsOf a kept → AreTotalsOf b kept
totals-any_order a b kept moved of = record {
  sum = any.strata-any_order a b kept.sum.number kept.sum.sum moved of.sum;
  samples_are = of.samples_are ∙ sym (sum_by-IsPermutation sampled a b moved);
  exceedances_are = of.exceedances_are ∙ sym (sum_by-IsPermutation exceeding a b moved);
}
