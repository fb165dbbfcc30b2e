use Rattle.std.proofs.Common.{◌≡◌, true, ◌++◌, map, drop}
use Rattle.aq_rules.specs.Shown.AreaSheets.{decisive_cells}
use Rattle.aq_reports.specs.Formed.{are_rows}
use Rattle.aq_reports.proofs.decisive.decisive_rows.Given as goal

abbrev pub invariant-loop-event : goal.invariant-loop-event
invariant-loop-event l = record {
  so_far : l.rows ++ map decisive_cells (drop l.event-index l.events) ≡ map decisive_cells l.events;
  rows : are_rows 2 l.rows ≡ true;
}
