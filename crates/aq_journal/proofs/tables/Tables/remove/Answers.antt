use Rattle.std.proofs.Common.{◌∙◌, ap}
use Rattle.aq_rules.specs.Kept.RowChanges.{drop_row}
use Rattle.aq_journal.proofs.Placed.{entries_dropped, rows_dropped}
use Rattle.aq_journal.proofs.tables.Tables.remove.Goals as goal

pub invariant_of-self : goal.invariant_of-self
invariant_of-self c = entries_dropped c.in_ok-place.place c.self.inside.rows.entries c.remove.new.self.entries c.self.invariant c.remove.ensures.entries c.remove.ensures.ordered

pub returns : goal.returns
returns c =
    rows_dropped c.in_ok-place.place c.args.key.now c.self.inside.rows.entries c.remove.new.self.entries c.in_ok-place.ensures c.self.invariant c.remove.ensures.entries
    ∙ ap (drop_row c.args.key.now) c.self.view_is
