use Rattle.std.proofs.Common.{◌≡◌, ◌*◌, ◌++◌, map, length}
use Rattle.aq_shelf.specs.Standing.{observations_in}
use Rattle.aq_book.specs.Questions.{shown_at}
use Rattle.aq_book.proofs.export.add_days.Given as goal

abbrev pub invariant-loop-item : goal.invariant-loop-item
invariant-loop-item g l =
    l.rows ++ map (shown_at l.registry l.monitor) l.span
    ≡ l.fn.rows ++ map (shown_at l.registry l.monitor) (observations_in l.monitor (24 * l.fn.first) (24 * l.fn.days) l.shelf)

abbrev pub decreases-loop-item : goal.decreases-loop-item
decreases-loop-item g l = length l.span
