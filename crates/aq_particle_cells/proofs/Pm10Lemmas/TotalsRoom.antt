-- One stratum more in the totals of a bag fits.
use Rattle.std.proofs.Common.{ℕ, ◌+◌, ◌<◌, ◌≤◌, ◌^◌, List, length, arith}
use Rattle.std.proofs.lemmas.List.Elements.{All-weaker}
use Rattle.std.proofs.lemmas.List.Sums.{sum_by-le}
use Rattle.aq_agg.specs.StratumSums.{IsStratum}
use Rattle.aq_particle_cells.specs.Pm10.StrataTotals.{exceeding, sampled, AreTotalsOf}
use Rattle.aq_particle_cells.specs.declared.pm10.strata_totals.StrataTotals.{StrataTotals}

module _ (bag : List (ℕ × ℕ)) (kept : StrataTotals) (of : AreTotalsOf bag kept) (few : length bag < 4294967295) where
  pub samples-fit : (more : ℕ) → more ≤ 255 → kept.samples + more < 2 ^ 64
  samples-fit more small =
      let most = sum_by-le sampled 6 bag (All-weaker IsStratum (λ s. sampled s ≤ 6) (λ s is. is.1) bag of.sum.strata) in
      let whole : kept.samples + more < 18446744073709551616 = (let a = of.samples_are in omega (arith, most, few, small, a)) in
      whole

  pub exceedances-fit : (more : ℕ) → more ≤ 255 → kept.exceedances + more < 2 ^ 64
  exceedances-fit more small =
      let most = sum_by-le exceeding 255 bag (All-weaker IsStratum (λ s. exceeding s ≤ 255) (λ s is. is.2) bag of.sum.strata) in
      let whole : kept.exceedances + more < 18446744073709551616 = (let a = of.exceedances_are in omega (arith, most, few, small, a)) in
      whole
