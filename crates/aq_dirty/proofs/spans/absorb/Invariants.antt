use Rattle.std.proofs.Common.{◌≡◌, ◌≤◌}
use Rattle.std.specs.VecDeque.{deque_len, deque_capacity}
use Rattle.aq_dirty.specs.Spans.{last_of, left_of}
use Rattle.aq_dirty.proofs.spans.absorb.Given as goal

abbrev pub invariant-loop-span : goal.invariant-loop-span
invariant-loop-span l = record {
  last : last_of l.front l.end l.last l.spans.items ≡ last_of l.front l.end l.front.last l.fn.spans.items;
  left : left_of l.front l.end l.spans.items ≡ left_of l.front l.end l.fn.spans.items;
  fewer : deque_len l.spans ≤ deque_len l.fn.spans;
  room : deque_capacity l.spans ≡ deque_capacity l.fn.spans;
}

abbrev pub decreases-loop-span : goal.decreases-loop-span
decreases-loop-span l = deque_len l.spans
