use Rattle.std.proofs.Common.{◌≡◌, ◌++◌, map}
use Rattle.aq_rows.specs.KeptLoads.{stored_in}
use Rattle.aq_rows.specs.OfficeRows.{load_row}
use Rattle.aq_rows.proofs.office_rows.add_loads.Given as goal

abbrev pub invariant-loop-number : goal.invariant-loop-number
invariant-loop-number l = l.rows ++ map load_row (stored_in l.number-iterator) ≡ l.fn.rows ++ map load_row l.fn.loads
