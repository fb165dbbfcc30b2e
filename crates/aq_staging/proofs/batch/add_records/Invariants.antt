use Rattle.std.proofs.Common.{◌≡◌, ◌++◌, map}
use Rattle.std.specs.List.{filter_map}
use Rattle.aq_rules.specs.Office.Office.{key_of}
use Rattle.aq_staging.specs.Batch.{record_change_at}
use Rattle.aq_staging.proofs.batch.add_records.Given as goal

abbrev pub invariant-loop-row : goal.invariant-loop-row
invariant-loop-row l =
    l.changes ++ filter_map (record_change_at l.before l.now) (map key_of l.row-iterator) ≡ l.fn.changes ++ filter_map (record_change_at l.before l.now) (map key_of l.touched)
