use Rattle.std.proofs.Common.{◌≡◌, ◌+◌, ◌≤◌, ◌++◌}
use Rattle.std.specs.Prelude.{reverse, vec_len, vec_capacity}
use Rattle.aq_keeper.specs.KeyView.{key_seen}
use Rattle.aq_keeper.specs.Rising.{AreBefore}
use Rattle.aq_keeper.proofs.tables.move_earlier.Given as goal

abbrev pub invariant-loop : goal.invariant-loop
invariant-loop l = record {
  whole : l.rows.items ++ reverse l.later.items ≡ l.fn.rows.items ++ reverse l.fn.later.items;
  before : AreBefore (key_seen l.key) l.rows.items;
  count : vec_len l.rows + vec_len l.later ≡ vec_len l.fn.rows + vec_len l.fn.later;
  capacity : vec_capacity l.fn.rows ≤ vec_capacity l.rows;
  later_capacity : vec_capacity l.later ≡ vec_capacity l.fn.later;
  left : vec_len l.later + l.counter ≡ l.end;
}
