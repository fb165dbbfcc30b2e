use Rattle.std.proofs.Common.{◌≡◌, ◌++◌}
use Rattle.std.specs.Prelude.{filter_map}
use Rattle.aq_rules.specs.Listed.Events.{event_by}
use Rattle.aq_listed.proofs.site_events.events_of.Given as goal

abbrev pub invariant-loop-row : goal.invariant-loop-row
invariant-loop-row l = l.list ++ filter_map (event_by l.site) l.row-iterator ≡ filter_map (event_by l.site) l.registry
