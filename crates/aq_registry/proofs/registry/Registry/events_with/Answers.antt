use Rattle.std.proofs.Common.{◌∙◌, sym, true, false, arith}
use Rattle.aq_registry.proofs.RowCounts.{events_few, counted-put}
use Rattle.aq_registry.proofs.registry.Registry.events_with.Goals as goal

pub overflow_add-result : goal.overflow_add-result
overflow_add-result c =
    let few = events_few c.self.inside.records c.self.invariant.office in
    omega (arith, few, c.self.invariant.events_counted)

pub returns-then-adds_event : goal.returns-then-adds_event
returns-then-adds_event c = omega (arith, counted-put c.args.row.now c.self.inside.records c.args.self.now c.self.inside.events c.self.invariant.office c.self.view_is c.self.invariant.events_counted true (sym c.if-adds_event.true ∙ c.adds_event.ensures))

pub returns-else-adds_event : goal.returns-else-adds_event
returns-else-adds_event c = omega (arith, counted-put c.args.row.now c.self.inside.records c.args.self.now c.self.inside.events c.self.invariant.office c.self.view_is c.self.invariant.events_counted false (sym c.if-adds_event.false ∙ c.adds_event.ensures))
