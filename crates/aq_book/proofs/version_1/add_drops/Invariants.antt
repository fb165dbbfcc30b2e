use Rattle.std.proofs.Common.{◌≡◌, ◌++◌, drop, map}
use Rattle.std.specs.Prelude.{filter}
use Rattle.aq_rules.specs.Kept.Rows.{Row}
use Rattle.aq_rules.specs.Kept.RowChanges.{DropRow, row_key}
use Rattle.aq_rules.specs.Kept.Migration.{is_first}
use Rattle.aq_book.proofs.version_1.add_drops.Given as goal

abbrev pub invariant-loop-row : goal.invariant-loop-row
invariant-loop-row l =
    l.batch ++ map (λ (row : Row). DropRow (row_key row)) (filter is_first (drop l.row-index l.rows)) ≡ l.fn.batch ++ map (λ (row : Row). DropRow (row_key row)) (filter is_first l.rows)
