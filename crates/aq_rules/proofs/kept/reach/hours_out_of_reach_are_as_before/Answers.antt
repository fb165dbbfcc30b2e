use Rattle.aq_rules.proofs.UnreachedHour.{hour-out_of_reach}
use Rattle.aq_rules.proofs.kept.reach.hours_out_of_reach_are_as_before.Goals as goal

pub returns : goal.returns
returns c a b site hour profile valid after out = hour-out_of_reach a b site hour profile valid after out
