use Rattle.std.proofs.Common.{◌+◌, ◌∙◌, arith}
use Rattle.aq_rules.specs.Kept.SummaryVerdicts.{kept_counted}
use Rattle.aq_verdict.specs.Ranks.{percentile_in}
use Rattle.aq_verdict.proofs.PercentilePlaces.{percentile-itself}
use Rattle.aq_verdict.proofs.percentile.percentile_of.Goals as goal

pub returns : goal.returns
returns c =
    let year = c.args.year.now in
    let counted = kept_counted year.quarters in
    c.percentile.ensures ∙ (λ i. percentile_in (c.greatest_values.ensures i) (c.counted_in.ensures.value i))
    ∙ percentile-itself year.top counted (counted + 0) c.quarters.ensures.facts.top_falls (omega arith)
