use Rattle.aq_rules.proofs.BatchDone.{batch-done}
use Rattle.aq_rules.proofs.office.load.the_batch_gives_the_office_after.Goals as goal

pub returns : goal.returns
returns c office number digest body rise = batch-done office number digest body rise
