use Rattle.std.proofs.Common.{◌≡◌, ◌++◌, drop, not}
use Rattle.std.specs.Prelude.{filter}
use Rattle.aq_rules.specs.Kept.Rows.{Row}
use Rattle.aq_rules.specs.Kept.Migration.{is_first}
use Rattle.aq_book.proofs.version_1.add_others.Given as goal

abbrev pub invariant-loop-row : goal.invariant-loop-row
invariant-loop-row l =
    l.made ++ filter (λ (row : Row). not (is_first row)) (drop l.row-index l.rows) ≡ l.fn.made ++ filter (λ (row : Row). not (is_first row)) l.rows
