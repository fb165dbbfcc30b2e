use Rattle.aq_rules.proofs.MigratedRows.{unopened-first, unopened-none}
use Rattle.aq_rules.proofs.kept.migration.first_row_that_cannot_be_opened_is_named.Goals as goal

pub returns-clause-place : goal.returns-clause-place
returns-clause-place c = unopened-first

pub returns-clause-none : goal.returns-clause-none
returns-clause-none c = unopened-none
