use Rattle.std.proofs.Common.{◌≡◌, ◌+◌, ◌++◌, map, drop}
use Rattle.std.specs.List.{enumerate_from}
use Rattle.aq_rules.specs.Shown.Sheets as sheets
use Rattle.aq_reports.proofs.windows.window_rows.Given as goal

abbrev pub invariant-loop-row : goal.invariant-loop-row
invariant-loop-row l = record {
  hour : l.hour ≡ 7 + l.row-index;
  so_far : l.rows ++ map sheets.window_cells (enumerate_from l.hour (drop l.row-index l.windows)) ≡ map sheets.window_cells (enumerate_from 7 l.windows);
}
