use Rattle.std.proofs.Common.{◌≡◌}
use Rattle.std.specs.Vec.Iter.{into_iter_items}
use Rattle.aq_rules.specs.Kept.RowChanges.{with_row_changes}
use Rattle.aq_journal.proofs.scanning.apply.Given as goal

abbrev pub invariant-loop-change : goal.invariant-loop-change
invariant-loop-change l = with_row_changes l.tables (into_iter_items l.change-iterator) ≡ with_row_changes l.fn.tables l.fn.batch.items
