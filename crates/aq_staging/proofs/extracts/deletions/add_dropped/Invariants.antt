use Rattle.std.proofs.Common.{◌≡◌, ◌+◌, ◌-◌, ◌*◌, ◌++◌, map}
use Rattle.aq_staging.specs.Extracts.Said.{hour_of, unsaid_lines}
use Rattle.aq_shelf.specs.Standing.{observations_in}
use Rattle.aq_staging.proofs.extracts.deletions.add_dropped.Given as goal

abbrev pub invariant-loop-hour : goal.invariant-loop-hour
invariant-loop-hour g l =
    l.text.items ++ unsaid_lines l.monitor l.said l.hour-iterator
    ≡ l.fn.text.items ++ unsaid_lines l.monitor (map hour_of (observations_in l.monitor (24 * l.days.first) (24 * l.days.last + 24 - 24 * l.days.first) l.rows)) (observations_in l.monitor (24 * l.days.first) (24 * l.days.last + 24 - 24 * l.days.first) l.shelf)
