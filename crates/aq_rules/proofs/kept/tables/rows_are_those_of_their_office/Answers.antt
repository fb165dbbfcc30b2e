use Rattle.aq_rules.proofs.Rewritten.{rows-rewritten, rows-valid}
use Rattle.aq_rules.proofs.kept.tables.rows_are_those_of_their_office.Goals as goal

pub returns-clause-rows : goal.returns-clause-rows
returns-clause-rows c = rows-rewritten

pub returns-clause-valid : goal.returns-clause-valid
returns-clause-valid c = rows-valid
