use Rattle.std.proofs.Common.{◌≡◌, ◌++◌, [], length}
use Rattle.std.specs.Prelude.{IfNone}
use Rattle.aq_shelf.specs.Stretches.{joined, rows_under}
use Rattle.aq_shelf.proofs.rows.RowsIterator.next.Given as goal

-- what is left stays as it was
abbrev pub invariant-loop-self : goal.invariant-loop-self
invariant-loop-self l = record {
  left : rows_under l.self-inside.monitor l.self-inside.hours.now ++ joined l.self-inside.behind ≡ l.fn.self;
  none : IfNone l.self-inside.monitor (l.self-inside.hours.now ≡ []);
}

abbrev pub decreases-loop-self : goal.decreases-loop-self
decreases-loop-self l = length l.self-inside.behind
