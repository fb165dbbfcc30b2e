use Rattle.std.proofs.Common.{◌≡◌, ◌++◌, map, drop}
use Rattle.aq_rules.specs.Listed.Events as events
use Rattle.aq_listed.proofs.event_sheet.event_rows.Given as goal

abbrev pub invariant-loop-row : goal.invariant-loop-row
invariant-loop-row l = l.rows ++ map events.event_cells (drop l.row-index l.listed) ≡ map events.event_cells l.listed
