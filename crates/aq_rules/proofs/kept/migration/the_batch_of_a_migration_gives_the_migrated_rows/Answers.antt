use Rattle.aq_rules.proofs.DropsAndPuts.{migration-done, migration-in_order}
use Rattle.aq_rules.proofs.kept.migration.the_batch_of_a_migration_gives_the_migrated_rows.Goals as goal

pub returns-clause-rows : goal.returns-clause-rows
returns-clause-rows c = migration-done

pub returns-clause-order : goal.returns-clause-order
returns-clause-order c = migration-in_order
