-- The rows of what an office has.
use Rattle.aq_base.specs.declared.observation.ObsKey.{ObsKey}
use Rattle.aq_base.specs.declared.observation.Observation.{Observation}
use Rattle.aq_base.specs.declared.office.OfficeRecord.{OfficeRecord}
use Rattle.aq_rules.specs.Kept.Rows as rows
use Rattle.aq_rules.specs.Office.Office.{StoredLoad}

abbrev pub record_row : OfficeRecord → rows.Row
record_row r = rows.OfOfficeRow (rows.office_row r)

abbrev pub observation_row : ObsKey × Observation → rows.Row
observation_row o = rows.OfSecondRow (rows.obs_row o)

abbrev pub load_row : StoredLoad → rows.Row
load_row l = rows.OfLoadRow (rows.load_row l)
