use Rattle.aq_rules.proofs.BatchAlters.{altered-differ}
use Rattle.aq_rules.proofs.kept.row_changes.a_change_that_alters_gives_other_rows.Goals as goal

pub returns : goal.returns
returns c rows change alters same = altered-differ rows change alters same
