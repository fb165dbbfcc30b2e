use Rattle.std.proofs.Common.{◌≡◌, map, drop}
use Rattle.aq_rules.specs.Kept.RowChanges.{row_key, keys_rise, keys_rise_from}
use Rattle.aq_keeper.proofs.order.are_in_order.Given as goal

abbrev pub invariant-loop-row : goal.invariant-loop-row
invariant-loop-row l = keys_rise_from (row_key l.before) (map row_key (drop l.row-index l.rest)) ≡ keys_rise (map row_key l.rows)
