use Rattle.std.proofs.Common.{◌+◌, ◌∙◌, length}
use Rattle.std.specs.List.{flat_map}
use Rattle.aq_rules.specs.Kept.SummaryVerdicts.{kept_counted}
use Rattle.aq_verdict.specs.Filled.{copies_of}
use Rattle.aq_verdict.specs.Ranks.{percentile_in}
use Rattle.aq_verdict.proofs.PercentilePlaces.{percentile-places}
use Rattle.aq_verdict.proofs.percentile.percentile_with.Goals as goal

pub percentile-requires : goal.percentile-requires
percentile-requires c = rw (c.counted_in.ensures.value, c.number_of.ensures) c.requires

pub returns : goal.returns
returns c =
    let year = c.args.year.now in
    let all = flat_map copies_of c.args.copies.now in
    c.percentile.ensures ∙ (λ i. percentile_in (c.top_with.ensures i) (c.counted_in.ensures.value i + c.number_of.ensures i))
    ∙ percentile-places year.top all (kept_counted year.quarters + length all) c.ranking_forgets_the_order.ensures c.quarters.ensures.facts.top_falls c.requires
