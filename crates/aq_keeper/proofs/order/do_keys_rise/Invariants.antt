use Rattle.std.proofs.Common.{◌≡◌, map, drop}
use Rattle.aq_rules.specs.Kept.RowChanges.{changed_key, batch_rises, batch_rises_from}
use Rattle.aq_keeper.proofs.order.do_keys_rise.Given as goal

abbrev pub invariant-loop-change : goal.invariant-loop-change
invariant-loop-change l = batch_rises_from (changed_key l.before) (map changed_key (drop l.change-index l.rest)) ≡ batch_rises (map changed_key l.batch)
