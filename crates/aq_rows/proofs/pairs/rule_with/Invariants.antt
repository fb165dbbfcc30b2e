use Rattle.std.proofs.Common.{◌≡◌, drop}
use Rattle.std.specs.Prelude.{◌==◌, find}
use Rattle.aq_base.specs.Rule.{rule_number}
use Rattle.aq_rows.proofs.pairs.rule_with.Given as goal

abbrev pub invariant-loop-rule : goal.invariant-loop-rule
invariant-loop-rule l = find (λ r. rule_number r == l.number) (drop l.rule-index l.rules) ≡ find (λ r. rule_number r == l.number) l.rules
