use Rattle.std.proofs.Common.{◌≡◌, ◌≤◌, ◌+◌, length}
use Rattle.aq_forms.specs.BodyLines.{lines_behind}
use Rattle.aq_base.specs.declared.limits.TheConstants.{MOST_BYTES}
use Rattle.aq_forms.proofs.lines.LinesIterator.next.Given as goal

-- only skipped lines were passed over
abbrev pub invariant-loop-line : goal.invariant-loop-line
invariant-loop-line l = record {
  few : l.self-inside.before + length l.self-inside.rest.now ≤ MOST_BYTES;
  left : lines_behind l.self-inside.before l.self-inside.rest.now ≡ l.fn.self;
}

abbrev pub decreases-loop-line : goal.decreases-loop-line
decreases-loop-line l = length l.self-inside.rest.now
