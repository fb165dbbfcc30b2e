use Rattle.std.proofs.Common.{◌≡◌, drop}
use Rattle.std.specs.List.{list_all}
use Rattle.aq_rules.specs.Office.Office.{is_listed}
use Rattle.aq_rows.proofs.loads.are_lines_of.Given as goal

abbrev pub invariant-loop-line : goal.invariant-loop-line
invariant-loop-line l = list_all (is_listed l.lines) (drop l.line-index l.listed) ≡ list_all (is_listed l.lines) l.listed
