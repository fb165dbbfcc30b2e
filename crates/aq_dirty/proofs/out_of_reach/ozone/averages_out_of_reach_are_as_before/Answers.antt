use Rattle.aq_dirty.proofs.OutOfReachLemmas.Windows.{window-out_of_reach}
use Rattle.aq_dirty.proofs.out_of_reach.ozone.averages_out_of_reach_are_as_before.Goals as goal

pub returns : goal.returns
returns c a b site start valid after out = window-out_of_reach a b site start valid after out
