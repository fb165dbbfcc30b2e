use Rattle.aq_verdict.proofs.PercentilePlaces.{top-of-four}
use Rattle.aq_verdict.proofs.percentile.top_with.Goals as goal

pub returns : goal.returns
returns c =
    top-of-four c.args.copies.now _ _ _ _ c.args.year.now.top _ _ _ _ _ c.told-copies c.greatest_values.ensures
    c.with_copies-top.ensures c.with_copies-top-2.ensures c.with_copies-top-3.ensures c.with_copies.ensures
