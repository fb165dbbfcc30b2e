use Rattle.std.proofs.Common.{◌∙◌, ap}
use Rattle.aq_rules.specs.Kept.RowChanges.{put_row}
use Rattle.aq_journal.proofs.Placed.{entries_put, rows_put}
use Rattle.aq_journal.proofs.tables.Tables.put.Goals as goal

pub invariant_of-self-2 : goal.invariant_of-self-2
invariant_of-self-2 c =
    entries_put c.in_ok-place.place c.args.row c.self.inside.rows.entries c.insert.new.self.entries c.in_ok-place.ensures c.self.invariant c.in_ok-insert.ensures.entries c.insert.ensures.ordered

pub returns : goal.returns
returns c =
    rows_put c.in_ok-place.place c.args.row c.self.inside.rows.entries c.insert.new.self.entries c.in_ok-place.ensures c.self.invariant c.in_ok-insert.ensures.entries
    ∙ ap (put_row c.args.row) c.self.view_is
