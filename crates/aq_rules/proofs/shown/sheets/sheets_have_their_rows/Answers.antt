use Rattle.aq_rules.proofs.Rows.{windows-rows, days-rows, value-rows}
use Rattle.aq_rules.proofs.shown.sheets.sheets_have_their_rows.Goals as goal

pub returns : goal.returns
returns c = record { windows = windows-rows; days = days-rows; value = value-rows }
