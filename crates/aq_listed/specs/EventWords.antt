-- What a record says of an event, and the row of an event by the marks of its site.
use Rattle.std.specs.Prelude.{Bool, Option, Some, None, List, count_by}
use Rattle.aq_base.specs.declared.office.OfficeRecord.{OfficeRecord}
use Rattle.aq_base.specs.declared.office.OfficeRecord.TheVariants.{Concurrence}
use Rattle.aq_registry.specs.Registry.{office_with}
use Rattle.aq_rules.specs.Listed.Events.{ListedEvent, StandingEvent, agreement_of}
use Rattle.aq_listed.specs.Marks.{is_marked, lies_between}
use Rattle.aq_listed.specs.declared.marks.Mark.{Mark}

-- what the record of a concurrence says
abbrev pub agreement_in : OfficeRecord → Option Bool
agreement_in (Concurrence number agreed) = Some agreed
agreement_in r = None

-- an event with what was said of it, and how many marks it has
abbrev pub listed_by : List OfficeRecord → List Mark → StandingEvent → ListedEvent
listed_by records marks event = record {
  event = event;
  agreed = agreement_of (office_with records) event.number;
  flagged = count_by (is_marked event.pollutant event.code (lies_between event.first event.last)) marks;
}
