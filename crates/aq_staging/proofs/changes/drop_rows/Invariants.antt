use Rattle.std.proofs.Common.{◌≡◌}
use Rattle.aq_staging.specs.Changes.{without_rows}
use Rattle.aq_staging.proofs.changes.drop_rows.Given as goal

-- those that are left are taken from the shelf as it is
abbrev pub invariant-loop-key : goal.invariant-loop-key
invariant-loop-key l = without_rows l.key-iterator l.shelf ≡ without_rows l.fn.dropped l.fn.shelf
