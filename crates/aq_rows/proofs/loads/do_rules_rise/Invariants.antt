use Rattle.std.proofs.Common.{◌≡◌, drop}
use Rattle.aq_rules.specs.Office.Office.{rest_rank, rises, rises_from}
use Rattle.aq_rows.proofs.loads.do_rules_rise.Given as goal

abbrev pub invariant-loop-counted : goal.invariant-loop-counted
invariant-loop-counted l = rises_from rest_rank l.before (drop l.counted-index l.others) ≡ rises rest_rank l.rest
