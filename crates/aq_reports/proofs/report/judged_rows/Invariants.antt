use Rattle.std.proofs.Common.{◌≡◌, ◌++◌, map, drop}
use Rattle.aq_rules.specs.Shown.OtherSheets as other_sheets
use Rattle.aq_reports.specs.Rows.{judged_in}
use Rattle.aq_reports.proofs.report.judged_rows.Given as goal

abbrev pub invariant-loop-row : goal.invariant-loop-row
invariant-loop-row l =
    l.rows ++ map (other_sheets.judged_cells l.standard) (map judged_in (drop l.row-index l.judged)) ≡ map (other_sheets.judged_cells l.standard) (map judged_in l.judged)
