use Rattle.std.proofs.Common.{◌≡◌, ◌+◌, ◌++◌}
use Rattle.std.specs.VecDeque.{deque_len, deque_capacity}
use Rattle.aq_dirty.proofs.spans.put_back.Given as goal

abbrev pub invariant-loop-last : goal.invariant-loop-last
invariant-loop-last l = record {
  same : l.front.items ++ l.back.items ≡ l.fn.front.items ++ l.fn.back.items;
  len : deque_len l.front + deque_len l.back ≡ deque_len l.fn.front + deque_len l.fn.back;
  front_room : deque_capacity l.front ≡ deque_capacity l.fn.front;
  back_room : deque_capacity l.back ≡ deque_capacity l.fn.back;
}

abbrev pub decreases-loop-last : goal.decreases-loop-last
decreases-loop-last l = deque_len l.front
