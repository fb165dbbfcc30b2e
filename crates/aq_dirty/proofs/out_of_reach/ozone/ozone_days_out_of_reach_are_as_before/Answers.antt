use Rattle.aq_dirty.proofs.OutOfReachLemmas.Windows.{day-out_of_reach}
use Rattle.aq_dirty.proofs.out_of_reach.ozone.ozone_days_out_of_reach_are_as_before.Goals as goal

pub returns : goal.returns
returns c a b site day valid after out = day-out_of_reach a b site day valid after out
