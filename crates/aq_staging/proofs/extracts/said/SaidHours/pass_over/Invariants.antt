use Rattle.std.proofs.Common.{◌≡◌, length}
use Rattle.aq_staging.specs.Extracts.Said.{from_hour}
use Rattle.aq_staging.proofs.extracts.said.SaidHours.pass_over.Given as goal

abbrev pub invariant-loop-hour : goal.invariant-loop-hour
invariant-loop-hour l = from_hour l.hour l.self ≡ from_hour l.hour l.fn.self

abbrev pub decreases-loop-hour : goal.decreases-loop-hour
decreases-loop-hour l = length l.self
