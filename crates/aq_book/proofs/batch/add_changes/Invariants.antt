use Rattle.std.proofs.Common.{◌≡◌, ◌++◌, map, drop}
use Rattle.aq_staging.specs.Batch.{changes_in}
use Rattle.aq_rules.specs.Kept.RowChanges.{row_change}
use Rattle.aq_book.proofs.batch.add_changes.Given as goal

abbrev pub invariant-loop-change : goal.invariant-loop-change
invariant-loop-change l =
    l.batch ++ map row_change (changes_in (drop l.change-index l.changes)) ≡ l.fn.batch ++ map row_change (changes_in l.changes)
