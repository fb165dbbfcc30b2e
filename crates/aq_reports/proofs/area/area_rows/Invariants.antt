use Rattle.std.proofs.Common.{◌≡◌, true, ◌++◌, map, drop}
use Rattle.aq_rules.specs.Shown.AreaSheets.{area_cells}
use Rattle.aq_reports.specs.Formed.{are_rows}
use Rattle.aq_reports.proofs.area.area_rows.Given as goal

abbrev pub invariant-loop-year : goal.invariant-loop-year
invariant-loop-year l = record {
  so_far : l.rows ++ map (area_cells l.standard) (drop l.year-index l.years) ≡ map (area_cells l.standard) l.years;
  rows : are_rows 3 l.rows ≡ true;
}
