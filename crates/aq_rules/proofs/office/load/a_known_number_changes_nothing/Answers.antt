use Rattle.aq_rules.proofs.Loads.{post-known, post-old}
use Rattle.aq_rules.proofs.office.load.a_known_number_changes_nothing.Goals as goal

pub returns-clause-known : goal.returns-clause-known
returns-clause-known c office number digest body kept is = post-known office number digest body kept is

pub returns-clause-not_new : goal.returns-clause-not_new
returns-clause-not_new c office number digest body old = post-old office number digest body old
