use Rattle.std.proofs.Common.{◌≡◌}
use Rattle.std.specs.Map.{values_of}
use Rattle.aq_rules.specs.Office.Questions.{first_given}
use Rattle.aq_registry.specs.Events.{event_above}
use Rattle.aq_registry.proofs.registry.events.first_event.Given as goal

-- the first answer is among what is left
abbrev pub invariant-loop-row : goal.invariant-loop-row
invariant-loop-row l =
    first_given (event_above l.site l.pollutant l.after) (values_of l.row-iterator) ≡ first_given (event_above l.site l.pollutant l.after) (values_of l.fn.part)
