use Rattle.std.proofs.Common.{◌≡◌, ◌++◌}
use Rattle.std.specs.List.{filter_map}
use Rattle.aq_staging.specs.Batch.{observation_change_at}
use Rattle.aq_staging.specs.Changes.{with_changes}
use Rattle.aq_staging.specs.Keys.{either_keys, keys_in}
use Rattle.aq_staging.proofs.batch.add_observations.Given as goal

abbrev pub invariant-loop-key : goal.invariant-loop-key
invariant-loop-key l =
    let change = observation_change_at l.shelf (with_changes l.staged l.shelf) in
    l.changes ++ filter_map change l.key-iterator ≡ l.fn.changes ++ filter_map change (either_keys (keys_in l.staged.dropped) (keys_in l.staged.left))
