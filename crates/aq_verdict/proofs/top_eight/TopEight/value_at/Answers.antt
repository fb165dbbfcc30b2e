use Rattle.std.proofs.Common.{◌-◌, ◌<◌, ◌∙◌, ap, length, arith, get_or}
use Rattle.std.specs.Prelude.{None, slice_get}
use Rattle.aq_verdict.proofs.Inserted.{given-at}
use Rattle.aq_verdict.proofs.top_eight.TopEight.value_at.Goals as goal

pub returns : goal.returns
returns c =
    let within : c.args.rank - 1 < length c.places.result.now = rw c.places.ensures.eight (omega arith) in
    ap (λ k. get_or c.places.result.now (k - 1) None) c.from.ensures
    ∙ given-at c.places.result.now (c.args.rank - 1) None c.places.ensures.falls within
    ∙ ap (λ l. slice_get l (c.args.rank - 1)) c.places.ensures.given
