use Rattle.aq_sqlite.proofs.LoadBatches.{load_spares, migration_spares}
use Rattle.aq_sqlite.proofs.crash.batches_spare_other_loads.Goals as goal

pub returns-clause-loads : goal.returns-clause-loads
returns-clause-loads c office number digest body other = load_spares other office number digest body

pub returns-clause-migrations : goal.returns-clause-migrations
returns-clause-migrations c rows number = migration_spares number rows
