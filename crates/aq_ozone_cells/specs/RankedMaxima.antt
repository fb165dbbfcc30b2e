-- The maxima of a year in a bag: how many there are, and the fourth of them. With the lemma that their order says nothing.
use Rattle.std.proofs.Common.{◌∙◌, sym}
use Rattle.std.specs.Prelude.{◌≡◌, ℕ, List, All, length, Option, ℤ}
use Rattle.std.specs.List.Sorted.{IsPermutation}
use Rattle.std.proofs.lemmas.List.Sorted.{length_permutation, All-permutation}
use Rattle.aq_agg.specs.AnyOrder as any
use Rattle.aq_rules.specs.Lists.{ranked}
use Rattle.aq_rules.specs.Ozone.OzoneYear.{fourth_of}
use Rattle.aq_series.specs.Samples.{IsOzone}
use Rattle.aq_ozone_cells.specs.declared.ranked_maxima.RankedMaxima.{RankedMaxima}

abbrev pub number_and_fourth : List ℤ → ℕ × Option ℤ
number_and_fourth bag = (length bag, fourth_of (ranked bag))

-- what is kept of a bag of ozone's values
pub record AreRanksOf (bag : List ℤ) (kept : RankedMaxima) : Type 0 where
  pub values_are : kept.values.values.items ≡ ranked bag
  pub number_is : kept.number ≡ length bag
  pub ozone : All IsOzone bag

pub ranks-any_order : (a b : List ℤ) (kept : RankedMaxima) → IsPermutation a b → AreRanksOf a kept → AreRanksOf b kept
ranks-any_order a b kept moved of = record {
  values_are = any.ranks-any_order a b kept.values.values.items moved of.values_are;
  number_is = of.number_is ∙ sym (length_permutation a b moved);
  ozone = All-permutation IsOzone a b moved of.ozone;
}
