use Rattle.aq_journal.proofs.Opens.{stays_if, ok_stays_if, err_stays_if}
use Rattle.aq_journal.proofs.journal_keeper.JournalKeeperKeeper.TheImpl.Goals as goal

pub read_all-tells : goal.read_all-tells
read_all-tells g c = record {
  rows = c.ensures.rows;
  kept = stays_if _ _ _ c.ensures.kept;
  cause = c.ensures.cause;
  commits = c.ensures.commits;
  held = c.ensures.held;
  gone = c.ensures.gone;
}

pub commit-tells : goal.commit-tells
commit-tells g c = record {
  done = ok_stays_if _ _ _ _ c.ensures.done;
  kept = err_stays_if _ _ _ _ c.ensures.kept;
  cause = c.ensures.cause;
  commits = c.ensures.commits;
  held = c.ensures.held;
  gone = c.ensures.gone;
}
