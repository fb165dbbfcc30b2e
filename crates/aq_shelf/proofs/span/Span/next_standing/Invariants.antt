use Rattle.std.proofs.Common.{◌≡◌, ◌++◌, length}
use Rattle.aq_shelf.specs.Stretches.{hours_between}
use Rattle.aq_shelf.proofs.span.Span.next_standing.Given as goal

-- what is left stays as it was
abbrev pub invariant-loop-self : goal.invariant-loop-self
invariant-loop-self l =
    l.self-inside.hours.now ++ hours_between l.self-inside.from l.self-inside.end l.self-inside.behind ≡ l.fn.self

abbrev pub decreases-loop-self : goal.decreases-loop-self
decreases-loop-self l = length l.self-inside.behind
