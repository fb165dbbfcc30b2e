use Rattle.std.proofs.Common.{◌≡◌, ◌++◌, drop}
use Rattle.aq_office.proofs.Areas.{numbered}
use Rattle.aq_office.proofs.area.rows_from.Given as goal

abbrev pub invariant-loop-place : goal.invariant-loop-place
invariant-loop-place l = l.rows.items ++ drop l.place (numbered l.years) ≡ drop l.from (numbered l.years)
