use Rattle.std.proofs.Common.{◌≡◌, drop}
use Rattle.std.specs.List.{list_all}
use Rattle.aq_rules.specs.Office.Office.{is_rest}
use Rattle.aq_rows.proofs.loads.are_counted.Given as goal

abbrev pub invariant-loop-counted : goal.invariant-loop-counted
invariant-loop-counted l = list_all is_rest (drop l.counted-index l.rest) ≡ list_all is_rest l.rest
