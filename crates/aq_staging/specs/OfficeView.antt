-- Records and observations as an office of the book of rules.
use Rattle.std.specs.Prelude.{List, []}
use Rattle.aq_base.specs.declared.observation.ObsKey.{ObsKey}
use Rattle.aq_base.specs.declared.observation.Observation.{Observation}
use Rattle.aq_base.specs.declared.office.OfficeRecord.{OfficeRecord}
use Rattle.aq_rules.specs.Office.Office.{Office}

-- the office of these records and observations, without loads
abbrev pub office_of : List OfficeRecord → List (ObsKey × Observation) → Office
office_of records observations = record { records = records; observations = observations; loads = [] }
