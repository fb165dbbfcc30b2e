use Rattle.aq_journal.proofs.Batches.{batch_again, batch_takes}
use Rattle.aq_journal.proofs.laws.batches_are_read_back.Goals as goal

pub returns-clause-again : goal.returns-clause-again
returns-clause-again c = batch_again

pub returns-clause-only : goal.returns-clause-only
returns-clause-only c = batch_takes
