use Rattle.std.proofs.Common.{◌≡◌, true, ◌++◌, map, drop}
use Rattle.aq_rules.specs.Shown.AreaSheets.{area_site_cells}
use Rattle.aq_reports.specs.Formed.{are_rows}
use Rattle.aq_reports.proofs.area.area_site_rows.Given as goal

abbrev pub invariant-loop-site : goal.invariant-loop-site
invariant-loop-site l = record {
  so_far : l.rows ++ map (area_site_cells l.standard) (drop l.site-index l.sites) ≡ map (area_site_cells l.standard) l.sites;
  rows : are_rows 4 l.rows ≡ true;
}
