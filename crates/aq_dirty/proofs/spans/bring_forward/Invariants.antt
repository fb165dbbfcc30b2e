use Rattle.std.proofs.Common.{◌≡◌, ◌+◌, ◌++◌, false}
use Rattle.std.specs.List.{AllByRecursion}
use Rattle.std.specs.VecDeque.{deque_len, deque_capacity}
use Rattle.aq_dirty.specs.Spans.{starts_before}
use Rattle.aq_dirty.proofs.spans.bring_forward.Given as goal

abbrev pub invariant-loop-first : goal.invariant-loop-first
invariant-loop-first l = record {
  front : AllByRecursion (λ other. starts_before l.span other ≡ false) l.front.items;
  same : l.front.items ++ l.back.items ≡ l.fn.front.items ++ l.fn.back.items;
  len : deque_len l.front + deque_len l.back ≡ deque_len l.fn.front + deque_len l.fn.back;
  front_room : deque_capacity l.front ≡ deque_capacity l.fn.front;
  back_room : deque_capacity l.back ≡ deque_capacity l.fn.back;
}

abbrev pub decreases-loop-first : goal.decreases-loop-first
decreases-loop-first l = deque_len l.back
