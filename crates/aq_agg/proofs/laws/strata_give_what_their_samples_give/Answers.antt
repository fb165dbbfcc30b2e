use Rattle.std.proofs.Common.{◌+◌}
use Rattle.std.proofs.lemmas.List.{length-map}
use Rattle.std.proofs.lemmas.List.Folds.{fold-map}
use Rattle.aq_rules.specs.Particles.Pm10Estimate.{sampled_strata}
use Rattle.aq_agg.specs.StratumSums.{sixtieths, stratum_with}
use Rattle.aq_agg.proofs.laws.strata_give_what_their_samples_give.Goals as goal

pub returns : goal.returns
returns c strata = λ i. (
  length-map (sampled_strata strata) stratum_with i,
  fold-map (λ sum stratum. sum + sixtieths stratum) stratum_with 0 (sampled_strata strata) i,
)
