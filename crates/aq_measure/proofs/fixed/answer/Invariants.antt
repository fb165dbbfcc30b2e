use Rattle.std.proofs.Common.{◌<◌}
use Rattle.aq_measure.specs.declared.fixed.TheConstants.{MOST_REQUESTS}
use Rattle.aq_measure.proofs.fixed.answer.Given as goal

abbrev pub invariant-loop-byte : goal.invariant-loop-byte
invariant-loop-byte g l = record {
  few : l.answered < MOST_REQUESTS;
}

abbrev pub invariant-loop : goal.invariant-loop
invariant-loop g l = record {
  few : l.answered < MOST_REQUESTS;
}
