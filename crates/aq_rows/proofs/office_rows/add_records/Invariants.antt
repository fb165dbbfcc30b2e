use Rattle.std.proofs.Common.{◌≡◌, ◌++◌, map}
use Rattle.aq_rows.specs.OfficeRows.{record_row}
use Rattle.aq_rows.proofs.office_rows.add_records.Given as goal

abbrev pub invariant-loop-entry : goal.invariant-loop-entry
invariant-loop-entry l = l.rows ++ map record_row l.entry-iterator ≡ l.fn.rows ++ map record_row l.fn.registry
