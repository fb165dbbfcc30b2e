use Rattle.aq_keeper.proofs.Telling.{exact, through}
use Rattle.aq_keeper.proofs.told.told_tables_are_exact.Goals as goal

pub returns-clause-exact : goal.returns-clause-exact
returns-clause-exact c = exact

pub returns-clause-through : goal.returns-clause-through
returns-clause-through c = through
