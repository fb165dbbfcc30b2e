use Rattle.aq_dirty.proofs.OutOfReachLemmas.Years.{approved-out_of_reach, season-out_of_reach}
use Rattle.aq_dirty.proofs.out_of_reach.ozone.seasons_and_approvals_out_of_reach_are_as_before.Goals as goal

pub returns : goal.returns
returns c = record {
  season = λ a b site year out. season-out_of_reach a b site year out;
  approval = λ a b site day out. approved-out_of_reach a b site day out;
}
