use Rattle.aq_rules.proofs.MigratedRows.{migrated-office, office-new, office-kept}
use Rattle.aq_rules.proofs.kept.migration.migrated_rows_are_an_offices.Goals as goal

pub returns : goal.returns
returns c = record { office = migrated-office; once = office-new; as_they_are = office-kept }
