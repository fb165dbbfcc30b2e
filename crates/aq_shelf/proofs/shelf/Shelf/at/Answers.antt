use Rattle.std.proofs.Common.{sym, subst, Option}
use Rattle.std.specs.Prelude.{IfSome}
use Rattle.aq_base.specs.Values.{HasValueInRange}
use Rattle.aq_base.specs.declared.observation.Observation.{Observation}
use Rattle.aq_shelf.specs.Stretches.{joined}
use Rattle.aq_shelf.proofs.ShelfLemmas.{IfSome-content_at}
use Rattle.aq_shelf.proofs.shelf.Shelf.at.Goals as goal

pub returns-clause-range : goal.returns-clause-range
returns-clause-range g c =
    subst (λ (o : Option Observation). IfSome o (HasValueInRange c.args.key.monitor.pollutant)) (sym c.find.ensures)
    (IfSome-content_at c.args.key (joined c.self.inside.stretches.entries) c.self.invariant.1.standing)
