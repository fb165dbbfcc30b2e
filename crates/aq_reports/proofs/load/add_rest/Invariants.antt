use Rattle.std.proofs.Common.{◌≡◌, ◌++◌, map, drop}
use Rattle.aq_rules.specs.Shown.Sheets as sheets
use Rattle.aq_reports.proofs.load.add_rest.Given as goal

abbrev pub invariant-loop-rest : goal.invariant-loop-rest
invariant-loop-rest l = l.rows ++ map sheets.rest_row (drop l.rest-index l.rules) ≡ l.fn.rows ++ map sheets.rest_row l.rules
