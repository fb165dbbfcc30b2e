use Rattle.std.proofs.Common.{◌≡◌, ◌++◌, drop, map}
use Rattle.std.specs.Prelude.{filter}
use Rattle.aq_rules.specs.Kept.Migration.{is_first, migrated_row}
use Rattle.aq_book.proofs.version_1.add_migrated.Given as goal

abbrev pub invariant-loop-row : goal.invariant-loop-row
invariant-loop-row l =
    l.made ++ map migrated_row (filter is_first (drop l.row-index l.rows)) ≡ l.fn.made ++ map migrated_row (filter is_first l.rows)
