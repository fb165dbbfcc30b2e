use Rattle.aq_rules.specs.Kept.RowChanges.{GivesRowsAfter}
use Rattle.aq_rules.proofs.RowBatch.{batch-written}
use Rattle.aq_rules.proofs.kept.row_changes.batch_gives_the_rows_after.Goals as goal

pub returns : goal.returns
unfolding GivesRowsAfter
returns c office number digest body valid = batch-written office valid number digest body
