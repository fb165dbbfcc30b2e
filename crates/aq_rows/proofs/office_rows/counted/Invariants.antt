use Rattle.std.proofs.Common.{◌≡◌, ◌++◌, map}
use Rattle.aq_rows.specs.OfficeRows.{observation_row}
use Rattle.aq_rows.proofs.office_rows.counted.Given as goal

abbrev pub invariant-loop-key : goal.invariant-loop-key
invariant-loop-key g l = l.rows ++ map observation_row l.key-iterator ≡ l.fn.rows ++ map observation_row l.fn.shelf
