use Rattle.std.proofs.Common.{◌≡◌, drop}
use Rattle.aq_rules.specs.Office.Office.{listed_rank, rises, rises_from}
use Rattle.aq_rows.proofs.loads.do_lines_rise.Given as goal

abbrev pub invariant-loop-line : goal.invariant-loop-line
invariant-loop-line l = rises_from listed_rank l.before (drop l.line-index l.rest) ≡ rises listed_rank l.listed
