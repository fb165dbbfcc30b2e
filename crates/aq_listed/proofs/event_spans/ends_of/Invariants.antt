use Rattle.std.proofs.Common.{◌≡◌, ◌++◌, drop}
use Rattle.std.specs.Prelude.{flat_map}
use Rattle.aq_listed.specs.EventSpans.{end_in}
use Rattle.aq_listed.proofs.event_spans.ends_of.Given as goal

abbrev pub invariant-loop-event : goal.invariant-loop-event
invariant-loop-event l = l.ends.items ++ flat_map end_in (drop l.event-index l.standing) ≡ flat_map end_in l.standing
