use Rattle.aq_rules.proofs.Cuts.{strata-joined}
use Rattle.aq_rules.proofs.particles.strata.each_day_lies_in_one_stratum.Goals as goal

pub returns : goal.returns
returns c = strata-joined
