use Rattle.std.proofs.Common.{◌≡◌, ◌++◌, drop, flat_map}
use Rattle.aq_pages.specs.Year.{highest_mark}
use Rattle.aq_pages.proofs.year.write_highest_marks.Given as goal

abbrev pub invariant-loop-row : goal.invariant-loop-row
invariant-loop-row l =
    l.out.items ++ flat_map (highest_mark l.top) (drop l.row-index l.rows) ≡ l.fn.out.items ++ flat_map (highest_mark l.top) l.rows
