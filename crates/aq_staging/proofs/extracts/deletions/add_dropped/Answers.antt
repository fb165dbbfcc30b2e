use Rattle.std.proofs.Common.{◌+◌, ◌-◌, ◌*◌, ◌++◌, ◌∙◌, ap}
use Rattle.aq_staging.proofs.ExtractsLemmas.SaidLemmas.{all_unsaid, unsaid-absent}
use Rattle.aq_staging.proofs.extracts.deletions.add_dropped.Goals as goal

pub returns : goal.returns
returns g c =
    all_unsaid c.args.monitor.now c.loop-hour.said c.loop-hour.hour-iterator c.loop-hour.text.items _ c.in-None.ensures.steps.0 c.loop-hour.invariant
    ∙ ap (λ l. c.args.text.now.items ++ l)
    (unsaid-absent c.args.monitor.now c.args.rows.now (24 * c.args.days.now.first) (24 * c.args.days.now.last + 24 - 24 * c.args.days.now.first) c.args.shelf.now
    c.span-hour-items.ensures.shelf.rising c.span.ensures.shelf.rising)
