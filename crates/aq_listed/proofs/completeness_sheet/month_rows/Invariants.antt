use Rattle.std.proofs.Common.{◌≡◌, ◌++◌, map, drop}
use Rattle.aq_rules.specs.Listed.Completeness.{month_cells}
use Rattle.aq_listed.proofs.completeness_sheet.month_rows.Given as goal

abbrev pub invariant-loop-month : goal.invariant-loop-month
invariant-loop-month l = l.rows ++ map month_cells (drop l.month-index l.months) ≡ map month_cells l.months
