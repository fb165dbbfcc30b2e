use Rattle.std.proofs.Common.{◌≡◌, ◌≤◌, length, take}
use Rattle.aq_rules.specs.Lines.Fields.{without_back}
use Rattle.aq_rd.proofs.fields.trim_back.Given as goal

abbrev pub invariant-loop-end : goal.invariant-loop-end
invariant-loop-end l = record {
  within : l.end ≤ length l.text;
  same : without_back (take l.end l.text) ≡ without_back l.text;
}

abbrev pub decreases-loop-end : goal.decreases-loop-end
decreases-loop-end l = l.end
