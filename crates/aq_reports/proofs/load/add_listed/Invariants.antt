use Rattle.std.proofs.Common.{◌≡◌, ◌++◌, map, drop}
use Rattle.aq_rules.specs.Shown.Sheets as sheets
use Rattle.aq_reports.proofs.load.add_listed.Given as goal

abbrev pub invariant-loop-listed : goal.invariant-loop-listed
invariant-loop-listed l = l.rows ++ map sheets.listed_row (drop l.listed-index l.lines) ≡ l.fn.rows ++ map sheets.listed_row l.lines
