use Rattle.std.proofs.Common.{◌≡◌, ◌+◌, ◌≤◌, ◌++◌, length, drop}
use Rattle.std.specs.Prelude.{reverse, vec_len, vec_capacity}
use Rattle.aq_keeper.specs.KeyView.{key_seen}
use Rattle.aq_keeper.specs.Rising.{Rise, StartsFrom, keys_of_rows}
use Rattle.aq_keeper.proofs.tables.move_later.Given as goal

abbrev pub invariant-loop : goal.invariant-loop
invariant-loop l = record {
  whole : l.rows.items ++ reverse l.later.items ≡ l.fn.rows.items ++ reverse l.fn.later.items;
  rise : Rise (keys_of_rows l.rows.items);
  front : l.fn.rows.items ≡ l.rows.items ++ drop (length l.rows.items) l.fn.rows.items;
  moved : StartsFrom (key_seen l.key) (drop (length l.rows.items) l.fn.rows.items);
  count : vec_len l.rows + vec_len l.later ≡ vec_len l.fn.rows + vec_len l.fn.later;
  capacity : vec_capacity l.rows ≡ vec_capacity l.fn.rows;
  later_capacity : vec_capacity l.fn.later ≤ vec_capacity l.later;
  left : vec_len l.rows + l.counter ≡ l.end;
}
