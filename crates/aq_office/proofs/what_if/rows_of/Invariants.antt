use Rattle.std.proofs.Common.{◌≡◌, ◌++◌, map, drop}
use Rattle.aq_rules.specs.Shown.AreaSheets.{decisive_row}
use Rattle.aq_office.proofs.what_if.rows_of.Given as goal

abbrev pub invariant-loop-event : goal.invariant-loop-event
invariant-loop-event l = l.rows.items ++ map decisive_row (drop l.event-index l.events) ≡ map decisive_row l.events
