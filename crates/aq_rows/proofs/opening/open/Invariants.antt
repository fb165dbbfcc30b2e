use Rattle.std.proofs.Common.{take, drop}
use Rattle.aq_rules.specs.Kept.Rows.{damage}
use Rattle.aq_rows.specs.Walking.{HasTaken}
use Rattle.aq_rows.proofs.opening.open.Given as goal

abbrev pub invariant-loop-index : goal.invariant-loop-index
invariant-loop-index l = HasTaken (take l.index l.rows) (drop l.index l.rows) l.walk (damage l.rows)
