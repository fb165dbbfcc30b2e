use Rattle.aq_rules.proofs.BatchOrder.{load-last, load-none}
use Rattle.aq_rules.proofs.office.load.the_load_is_the_last_change.Goals as goal

pub returns-clause-last : goal.returns-clause-last
returns-clause-last c office number digest body h = load-last office digest body number h

pub returns-clause-none : goal.returns-clause-none
returns-clause-none c office digest body = load-none office digest body
