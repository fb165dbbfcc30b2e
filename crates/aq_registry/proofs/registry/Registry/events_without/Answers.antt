use Rattle.std.proofs.Common.{◌∙◌, sym, true, false, arith}
use Rattle.aq_registry.proofs.RowCounts.{counted-dropped}
use Rattle.aq_registry.proofs.registry.Registry.events_without.Goals as goal

pub overflow_sub-result : goal.overflow_sub-result
overflow_sub-result c = omega (arith, counted-dropped c.args.key.now c.self.inside.records c.args.self.now c.self.inside.events c.self.invariant.office c.self.view_is c.self.invariant.events_counted true (sym c.if-drops_event.true ∙ c.drops_event.ensures))

pub returns-then-drops_event : goal.returns-then-drops_event
returns-then-drops_event c = omega (arith, counted-dropped c.args.key.now c.self.inside.records c.args.self.now c.self.inside.events c.self.invariant.office c.self.view_is c.self.invariant.events_counted true (sym c.if-drops_event.true ∙ c.drops_event.ensures))

pub returns-else-drops_event : goal.returns-else-drops_event
returns-else-drops_event c = omega (arith, counted-dropped c.args.key.now c.self.inside.records c.args.self.now c.self.inside.events c.self.invariant.office c.self.view_is c.self.invariant.events_counted false (sym c.if-drops_event.false ∙ c.drops_event.ensures))
