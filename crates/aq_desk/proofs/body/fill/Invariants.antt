use Rattle.std.proofs.Common.{◌≡◌, ◌++◌, ◌+◌, ◌-◌, ◌≤◌, vec_len}
use Rattle.std.specs.Option.{option_map}
use Rattle.aq_rules.specs.Limits.{MOST_BYTES}
use Rattle.aq_desk.proofs.body.fill.Given as goal

abbrev pub invariant-loop-body : goal.invariant-loop-body
invariant-loop-body g l = record {
  told : option_map (λ left. l.body.items ++ left) (g.S.Source.seen l.input).left ≡ (g.S.Source.seen l.fn.input).left;
  few : vec_len l.body ≤ MOST_BYTES + 1;
  steady : (g.S.Source.seen l.input).faults ≡ (g.S.Source.seen l.fn.input).faults;
}

abbrev pub decreases-loop-body : goal.decreases-loop-body
decreases-loop-body g l = MOST_BYTES + 1 - vec_len l.body
