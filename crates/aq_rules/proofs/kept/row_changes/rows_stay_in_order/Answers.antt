use Rattle.aq_rules.proofs.OfficeInOrder.{office-in_order}
use Rattle.aq_rules.proofs.RowsInOrder.{changed-rises}
use Rattle.aq_rules.proofs.kept.row_changes.rows_stay_in_order.Goals as goal

pub returns-clause-office : goal.returns-clause-office
returns-clause-office c office valid = office-in_order office valid

pub returns-clause-change : goal.returns-clause-change
returns-clause-change c rows change rise = changed-rises rows change rise
