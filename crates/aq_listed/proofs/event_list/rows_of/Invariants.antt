use Rattle.std.proofs.Common.{◌≡◌, ◌++◌, map, drop}
use Rattle.aq_listed.specs.EventWords.{listed_by}
use Rattle.aq_listed.proofs.event_list.rows_of.Given as goal

abbrev pub invariant-loop-event : goal.invariant-loop-event
invariant-loop-event l = l.rows ++ map (listed_by l.registry l.marks) (drop l.event-index l.standing) ≡ map (listed_by l.registry l.marks) l.standing
