use Rattle.std.proofs.Common.{◌≡◌, ◌+◌, ◌≤◌, ◌++◌, length}
use Rattle.std.specs.Prelude.{reverse, vec_len, vec_capacity}
use Rattle.std.specs.Vec.Iter.{into_iter_items, into_iter_len}
use Rattle.aq_rules.specs.Kept.RowChanges.{with_row_changes}
use Rattle.aq_keeper.specs.Rising.{Rise, keys_of_rows}
use Rattle.aq_keeper.proofs.tables.make_all.Given as goal

abbrev pub invariant-loop-change : goal.invariant-loop-change
invariant-loop-change l = record {
  whole : with_row_changes (l.rows.items ++ reverse l.later.items) (into_iter_items l.change-iterator) ≡ with_row_changes l.fn.rows.items l.fn.changes.items;
  rise : Rise (keys_of_rows (l.rows.items ++ reverse l.later.items));
  count : into_iter_len l.change-iterator ≡ length (into_iter_items l.change-iterator);
  room : vec_len l.rows + vec_len l.later + into_iter_len l.change-iterator ≤ vec_capacity l.rows;
  later_room : vec_len l.rows + vec_len l.later + into_iter_len l.change-iterator ≤ vec_capacity l.later;
}
