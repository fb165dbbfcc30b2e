use Rattle.std.proofs.Common.{◌≡◌, true, drop}
use Rattle.aq_registry.specs.Registry.{office_with}
use Rattle.aq_rules.specs.WhatIf.Assumed.{unknown_event}
use Rattle.aq_design.specs.WhatIf.Records.{are_event_numbers}
use Rattle.aq_design.proofs.what_if.records.unknown_event.Given as goal

-- nothing is refused of what was passed
abbrev pub invariant-loop-entry : goal.invariant-loop-entry
invariant-loop-entry l = record {
  first : unknown_event (office_with l.registry) (drop l.entry-index l.assumed) ≡ unknown_event (office_with l.registry) l.assumed;
  numbers : are_event_numbers (drop l.entry-index l.assumed) ≡ true → are_event_numbers l.assumed ≡ true;
}
