use Rattle.aq_tables.proofs.Numbers.{has_if, none_else}
use Rattle.aq_tables.proofs.number.keys_that_have_a_number.Goals as goal

pub returns-clause-some : goal.returns-clause-some
returns-clause-some c = has_if

pub returns-clause-none : goal.returns-clause-none
returns-clause-none c = none_else
