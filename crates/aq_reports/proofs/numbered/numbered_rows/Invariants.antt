use Rattle.std.proofs.Common.{◌≡◌, true, ◌+◌, ◌++◌, map, drop}
use Rattle.std.specs.List.{enumerate_from}
use Rattle.aq_reports.specs.Formed.{are_rows}
use Rattle.aq_reports.proofs.numbered.numbered_rows.Given as goal

abbrev pub invariant-loop-item : goal.invariant-loop-item
invariant-loop-item g l = record {
  number : l.number ≡ l.first + l.item-index;
  so_far : l.rows ++ map g.T.NumberedRow.shown (enumerate_from l.number (drop l.item-index l.items)) ≡ map g.T.NumberedRow.shown (enumerate_from l.first l.items);
  rows : are_rows g.T.NumberedRow.width l.rows ≡ true;
}
