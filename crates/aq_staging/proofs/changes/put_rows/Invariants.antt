use Rattle.std.proofs.Common.{◌≡◌}
use Rattle.std.specs.List.{AllByRecursion}
use Rattle.aq_shelf.specs.Standing.{IsStanding}
use Rattle.aq_staging.specs.Changes.{with_rows}
use Rattle.aq_staging.proofs.changes.put_rows.Given as goal

-- those that are left are put on the shelf as it is
abbrev pub invariant-loop-key : goal.invariant-loop-key
invariant-loop-key l = record {
  standing : AllByRecursion IsStanding l.key-iterator;
  shelf : with_rows l.key-iterator l.shelf ≡ with_rows l.fn.left l.fn.shelf;
}
