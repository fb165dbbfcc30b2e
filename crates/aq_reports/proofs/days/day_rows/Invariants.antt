use Rattle.std.proofs.Common.{◌≡◌, ◌+◌, ◌++◌, map, drop, zip}
use Rattle.std.specs.List.{enumerate_from}
use Rattle.aq_rules.specs.Shown.Sheets as sheets
use Rattle.aq_reports.proofs.days.day_rows.Given as goal

abbrev pub invariant-loop-place : goal.invariant-loop-place
invariant-loop-place l =
    l.rows ++ map sheets.day_cells (enumerate_from (l.first + l.place) (zip (drop l.place l.days) (drop l.place l.approved))) ≡ map sheets.day_cells (enumerate_from l.first (zip l.days l.approved))
