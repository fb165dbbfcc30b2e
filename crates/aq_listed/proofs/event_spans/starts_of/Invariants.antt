use Rattle.std.proofs.Common.{◌≡◌, ◌++◌, drop}
use Rattle.std.specs.Prelude.{flat_map}
use Rattle.aq_listed.specs.EventSpans.{start_in}
use Rattle.aq_listed.proofs.event_spans.starts_of.Given as goal

abbrev pub invariant-loop-event : goal.invariant-loop-event
invariant-loop-event l = l.starts.items ++ flat_map start_in (drop l.event-index l.standing) ≡ flat_map start_in l.standing
