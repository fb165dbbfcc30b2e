use Rattle.aq_rules.proofs.Rows.{report-rows}
use Rattle.aq_rules.proofs.shown.answer.reports_say_what_value_sheets_say.Goals as goal

pub returns : goal.returns
returns c = report-rows
