use Rattle.std.proofs.Common.{◌≡◌, ◌++◌, drop, map}
use Rattle.std.specs.Prelude.{filter}
use Rattle.aq_rules.specs.Kept.Rows.{Row}
use Rattle.aq_rules.specs.Kept.RowChanges.{PutRow}
use Rattle.aq_rules.specs.Kept.Migration.{is_first, migrated_row}
use Rattle.aq_book.proofs.version_1.add_puts.Given as goal

abbrev pub invariant-loop-row : goal.invariant-loop-row
invariant-loop-row l =
    l.batch ++ map (λ (row : Row). PutRow (migrated_row row)) (filter is_first (drop l.row-index l.rows)) ≡ l.fn.batch ++ map (λ (row : Row). PutRow (migrated_row row)) (filter is_first l.rows)
