-- What a line changes in the records, and when it is refused.
use Rattle.std.specs.Prelude.{◌≡◌, ℕ, Option, Some, None, List, codes, option_map}
use Rattle.aq_base.specs.declared.office.OfficeRecord.{OfficeRecord}
use Rattle.aq_base.specs.declared.office.OfficeKey.{OfficeKey}
use Rattle.aq_base.specs.declared.office.OfficeKey.TheVariants.{Event as EventKey, Concurrence as ConcurrenceKey}
use Rattle.aq_base.specs.declared.office.OfficeLine.{OfficeLine}
use Rattle.aq_base.specs.declared.office.OfficeLine.TheVariants.{Put, Change, Drop}
use Rattle.aq_base.specs.declared.rule.Rule.{Rule}
use Rattle.aq_rules.specs.Office.Office.{key_of}
use Rattle.aq_rules.specs.Office.Questions.{record_of}
use Rattle.aq_registry.specs.declared.changes.RecordChange.{RecordChange}
use Rattle.aq_registry.specs.declared.changes.Changes.{Changes}
use Rattle.aq_registry.specs.declared.changes.RegistryFault.{RegistryFault}
use Rattle.aq_registry.specs.declared.changes.RegistryFault.TheVariants.{Broken, Memory}

abbrev pub fault_text : RegistryFault → List ℕ
fault_text (Broken rule) = codes "the line breaks a rule of the office"
fault_text Memory = codes "memory"

-- the key of the record that a line puts, changes or drops
abbrev pub line_key : OfficeLine → OfficeKey
line_key (Put r) = key_of r
line_key (Change r) = key_of r
line_key (Drop key) = key

-- the concurrence that is dropped with a key, which is that of an event
abbrev pub dropped_with : List OfficeRecord → OfficeKey → Option OfficeRecord
dropped_with records (EventKey number) = record_of records (ConcurrenceKey number)
dropped_with records key = None

abbrev pub dropped_by : List OfficeRecord → OfficeLine → Option OfficeRecord
dropped_by records (Drop key) = dropped_with records key
dropped_by records line = None

-- what became of a record that was dropped
abbrev pub dropping : OfficeRecord → RecordChange
dropping r = record { old = Some r; new = None }

-- what a record that is put changes
abbrev pub putting : List OfficeRecord → OfficeRecord → Changes
putting before r = record {
  first = record { old = record_of before (key_of r); new = Some r };
  second = None;
}

-- what a key that is dropped changes
abbrev pub drop_changes : List OfficeRecord → OfficeKey → Changes
drop_changes before key = record {
  first = record { old = record_of before key; new = None };
  second = option_map dropping (dropped_with before key);
}

-- what a line changed, by the records before it and after it
abbrev pub changes_of : List OfficeRecord → List OfficeRecord → OfficeLine → Changes
changes_of before after line = record {
  first = record { old = record_of before (line_key line); new = record_of after (line_key line) };
  second = option_map dropping (dropped_by before line);
}

-- a fault is the rule that the line breaks, or want of memory for a line that breaks none; a deletion takes no memory
abbrev pub IsFaultOf : Option Rule → OfficeLine → RegistryFault → Type 0
IsFaultOf broken line (Broken rule) = broken ≡ Some rule
IsFaultOf broken (Drop key) Memory = ⊥
IsFaultOf broken line Memory = broken ≡ None
