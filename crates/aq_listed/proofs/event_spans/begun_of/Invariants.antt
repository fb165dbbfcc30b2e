use Rattle.std.proofs.Common.{◌≡◌, ◌++◌, drop, filter}
use Rattle.aq_listed.specs.EventSpans.{is_begun}
use Rattle.aq_listed.proofs.event_spans.begun_of.Given as goal

abbrev pub invariant-loop-mark : goal.invariant-loop-mark
invariant-loop-mark l = l.begun.items ++ filter (is_begun l.starts l.ends) (drop l.mark-index l.marks) ≡ filter (is_begun l.starts l.ends) l.marks
