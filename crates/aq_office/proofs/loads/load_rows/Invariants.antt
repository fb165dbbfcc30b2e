use Rattle.std.proofs.Common.{◌≡◌, ◌++◌, map}
use Rattle.aq_rows.specs.KeptLoads.{stored_in}
use Rattle.aq_rules.specs.Listed.Loads.{load_cells}
use Rattle.aq_office.proofs.loads.load_rows.Given as goal

abbrev pub invariant-loop-number : goal.invariant-loop-number
invariant-loop-number l = l.rows.items ++ map load_cells (stored_in l.number-iterator) ≡ map load_cells l.loads
