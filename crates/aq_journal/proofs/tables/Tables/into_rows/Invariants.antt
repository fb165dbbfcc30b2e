use Rattle.std.proofs.Common.{◌≡◌, ◌++◌}
use Rattle.aq_journal.proofs.tables.Tables.into_rows.Given as goal

abbrev pub invariant-loop-row : goal.invariant-loop-row
invariant-loop-row l = l.rows.items ++ l.row-iterator ≡ l.fn.self
