-- The changes that a load makes to an office's records and observations.
use Rattle.std.specs.Prelude.{Option, List, map}
use Rattle.aq_base.specs.declared.observation.ObsKey.{ObsKey}
use Rattle.aq_base.specs.declared.observation.Observation.{Observation}
use Rattle.aq_base.specs.declared.office.OfficeRecord.{OfficeRecord}
use Rattle.aq_base.specs.declared.office.OfficeKey.{OfficeKey}
use Rattle.aq_rules.specs.Office.Load.{record_change, observation_change}
use Rattle.aq_rules.specs.Office.Load as load
use Rattle.aq_rules.specs.Office.Questions.{record_of}
use Rattle.aq_shelf.specs.Standing.{content_at}
use Rattle.aq_staging.specs.declared.change.OfficeChange.{OfficeChange}
use Rattle.aq_staging.specs.declared.change.OfficeChange.TheVariants.{PutRecord, DropRecord, PutObservation, DropObservation}

-- a change as the book of rules has it
abbrev pub change_in : OfficeChange → load.OfficeChange
change_in (PutRecord row) = load.PutRecord row
change_in (DropRecord key) = load.DropRecord key
change_in (PutObservation key content) = load.PutObservation key content
change_in (DropObservation key) = load.DropObservation key

abbrev pub changes_in : List OfficeChange → List load.OfficeChange
changes_in changes = map change_in changes

-- what becomes of the record of a key
abbrev pub record_change_at : List OfficeRecord → List OfficeRecord → OfficeKey → Option load.OfficeChange
record_change_at before after key = record_change key (record_of before key) (record_of after key)

-- what becomes of the observation at a key
abbrev pub observation_change_at : List (ObsKey × Observation) → List (ObsKey × Observation) → ObsKey → Option load.OfficeChange
observation_change_at before after key = observation_change key (content_at key before) (content_at key after)
