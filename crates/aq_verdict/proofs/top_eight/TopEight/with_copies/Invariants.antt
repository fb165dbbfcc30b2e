use Rattle.std.proofs.Common.{◌≡◌, take, replicate}
use Rattle.aq_verdict.specs.Inserted.{inserted}
use Rattle.aq_verdict.proofs.top_eight.TopEight.with_copies.Given as goal

abbrev pub invariant-loop-copy : goal.invariant-loop-copy
invariant-loop-copy l = l.top ≡ take 8 (inserted (replicate l._copy l.value) l.self)
