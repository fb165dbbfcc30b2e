use Rattle.aq_rules.proofs.Cuts.{strata-six, strata-alone}
use Rattle.aq_rules.proofs.particles.strata.strata_are_short.Goals as goal

pub returns-clause-six : goal.returns-clause-six
returns-clause-six c = strata-six

pub returns-clause-scheduled : goal.returns-clause-scheduled
returns-clause-scheduled c = strata-alone
