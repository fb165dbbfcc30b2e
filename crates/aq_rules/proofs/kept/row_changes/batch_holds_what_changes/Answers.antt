use Rattle.aq_rules.proofs.BatchAlters.{batch-alters}
use Rattle.aq_rules.proofs.kept.row_changes.batch_holds_what_changes.Goals as goal

pub returns : goal.returns
returns c office number digest body valid new = batch-alters office valid number digest body new
