-- The records of an office with assumed concurrences.
use Rattle.std.specs.Prelude.{Bool, List}
use Rattle.std.specs.List.{list_all}
use Rattle.aq_base.specs.declared.assumed.Assumed.{Assumed}
use Rattle.aq_base.specs.declared.office.OfficeRecord.{OfficeRecord}
use Rattle.aq_rules.specs.Lines.Spellings.{is_event_number}
use Rattle.aq_rules.specs.WhatIf.Assumed.{assume, number_of}
use Rattle.aq_registry.specs.Registry.{office_with}

abbrev pub records_as_if : List OfficeRecord → List Assumed → List OfficeRecord
records_as_if records list = (assume (office_with records) list).records

-- whether each number is one that an event may have
abbrev pub are_event_numbers : List Assumed → Bool
are_event_numbers list = list_all (λ entry. is_event_number (number_of entry)) list
