use Rattle.std.proofs.Common.{◌+◌, ◌∙◌}
use Rattle.aq_verdict.proofs.PercentilePlaces.{copies-number-of}
use Rattle.aq_verdict.proofs.percentile.number_of.Goals as goal

pub returns : goal.returns
returns c =
    (λ i. c.number.ensures.value i + c.number-2.ensures.value i + c.number-3.ensures.value i + c.number-4.ensures.value i)
    ∙ copies-number-of c.args.copies.now _ _ _ _ c.told-copies
