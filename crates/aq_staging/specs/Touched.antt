-- The records that a load's lines touched.
use Rattle.std.specs.Prelude.{◌≡◌, ℕ, true, Option, Some, None, List}
use Rattle.std.specs.Option.{option_or}
use Rattle.aq_base.specs.declared.office.OfficeRecord.{OfficeRecord}
use Rattle.aq_rules.specs.Office.Office.{record_rank, rises, row_at, with_row}
use Rattle.aq_registry.specs.declared.changes.Changes.{Changes}
use Rattle.aq_registry.specs.declared.changes.RecordChange.{RecordChange}

-- ---- one more line

abbrev pub noted_row : Option OfficeRecord → List OfficeRecord → List OfficeRecord
noted_row None touched = touched
noted_row (Some row) touched = with_row record_rank row touched

-- with the record that was put, or with the one that was dropped
abbrev pub noted_change : RecordChange → List OfficeRecord → List OfficeRecord
noted_change change touched = noted_row (option_or change.new change.old) touched

abbrev pub noted_second : Option RecordChange → List OfficeRecord → List OfficeRecord
noted_second None touched = touched
noted_second (Some change) touched = noted_change change touched

-- with what a line put or dropped
abbrev pub noted : Changes → List OfficeRecord → List OfficeRecord
noted changes touched = noted_second changes.second (noted_change changes.first touched)

-- ---- what holds of the touched records of every load

-- they are in order; and if none of them has a key, its record is the one before the load
pub record AreTouched (before after touched : List OfficeRecord) : Type 0 where
  pub rising : rises record_rank touched ≡ true
  pub others : (key : List ℕ) → row_at record_rank key touched ≡ None → row_at record_rank key before ≡ row_at record_rank key after
