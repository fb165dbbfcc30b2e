use Rattle.std.proofs.Common.{◌∙◌, ap}
use Rattle.aq_rules.specs.Lists.{all_of}
use Rattle.aq_rules.specs.Particles.AnnualVerdict.{filled_mean}
use Rattle.aq_rules.specs.Kept.SummaryVerdicts.{of_summaries}
use Rattle.aq_verdict.specs.Filled.{copies_in_test}
use Rattle.aq_verdict.proofs.Rows.{map-matched}
use Rattle.aq_verdict.proofs.annual_value.filled_means.Goals as goal

pub returns-clause-means : goal.returns-clause-means
returns-clause-means c =
    c.all_four.ensures.all
    ∙ ap all_of
    (map-matched (filled_mean of_summaries (copies_in_test c.args.test)) c.args.years.now c.args.year.now c.quarters.result.now _ _ _ _ _ _ _ _ c.quarters.ensures.value c.quarters.ensures.facts.four
    c.filled_mean.ensures.mean c.filled_mean-2.ensures.mean c.filled_mean-3.ensures.mean c.filled_mean-4.ensures.mean)
