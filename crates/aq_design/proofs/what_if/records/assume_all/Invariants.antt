use Rattle.std.proofs.Common.{◌≡◌, true, drop, None}
use Rattle.aq_registry.specs.Registry.{office_with}
use Rattle.aq_rules.specs.WhatIf.Assumed.{unknown_event}
use Rattle.aq_design.specs.WhatIf.Records.{are_event_numbers, records_as_if}
use Rattle.aq_design.proofs.what_if.records.assume_all.Given as goal

-- the entries that are left are of events that stand
abbrev pub invariant-loop-entry : goal.invariant-loop-entry
invariant-loop-entry l = record {
  records : records_as_if l.records (drop l.entry-index l.assumed) ≡ records_as_if l.fn.records l.assumed;
  numbers : are_event_numbers (drop l.entry-index l.assumed) ≡ true;
  known : unknown_event (office_with l.records) (drop l.entry-index l.assumed) ≡ None;
}
