use Rattle.aq_journal.proofs.Journals.{journal_again, journal_takes}
use Rattle.aq_journal.proofs.laws.journals_are_read_back.Goals as goal

pub returns-clause-again : goal.returns-clause-again
returns-clause-again c = journal_again

pub returns-clause-only : goal.returns-clause-only
returns-clause-only c = journal_takes
