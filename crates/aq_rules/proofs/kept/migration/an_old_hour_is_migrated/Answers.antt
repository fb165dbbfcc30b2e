use Rattle.std.proofs.Common.{refl}
use Rattle.aq_rules.specs.Kept.Migration.{migrated, migration_batch}
use Rattle.aq_rules.proofs.kept.migration.an_old_hour_is_migrated.Goals as goal

pub returns : goal.returns
unfolding migrated migration_batch
returns c = record { hour = refl; rows = refl; batch = refl; two = refl }
