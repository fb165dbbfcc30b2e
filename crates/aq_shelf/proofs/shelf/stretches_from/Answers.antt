use Rattle.std.proofs.Common.{◌∙◌, ap, List, ℕ}
use Rattle.std.specs.declared.cmp.Reverse.{Reverse}
use Rattle.aq_base.specs.declared.observation.Observation.{Observation}
use Rattle.aq_shelf.specs.declared.stretch.Stretch.{Stretch}
use Rattle.aq_shelf.specs.Stretches.{hours_between}
use Rattle.aq_shelf.proofs.StretchLemmas.{hours-joined}
use Rattle.aq_shelf.proofs.shelf.stretches_from.Goals as goal

pub returns : goal.returns
returns c =
    ap (λ (ss : List (Reverse Stretch × List (ℕ × Observation))). hours_between c.args.from c.args.end ss) (c.range.ensures.between tt)
    ∙ hours-joined c.args.monitor.now c.args.from c.args.end c.args.stretches.now.entries c.requires.order c.requires.stretches.apart
