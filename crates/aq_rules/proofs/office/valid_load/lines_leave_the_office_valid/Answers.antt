use Rattle.aq_rules.proofs.ValidAfter.{changed-valid, line_leaves_valid, lines_leave_valid}
use Rattle.aq_rules.proofs.office.valid_load.lines_leave_the_office_valid.Goals as goal

pub returns : goal.returns
returns c = record { value = changed-valid; line = line_leaves_valid; lines = lines_leave_valid }
