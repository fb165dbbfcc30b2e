use Rattle.aq_rules.proofs.Loads.{after-refused}
use Rattle.aq_rules.proofs.office.load.a_refused_line_changes_nothing.Goals as goal

pub returns : goal.returns
returns c office line rule is = after-refused office line rule is
