use Rattle.aq_dirty.proofs.OutOfReachLemmas.StrataReached.{holds-onto, holds-back, stratum_day-out_of_reach}
use Rattle.aq_dirty.proofs.out_of_reach.strata.days_of_strata_out_of_reach_are_as_before.Goals as goal

pub returns : goal.returns
returns c = record {
  stays = λ a b site first day profile valid after out is. holds-onto a b site first valid after out day profile is;
  stood = λ a b site first day profile valid after out is. holds-back a b site first valid after out day profile is;
  value = λ a b site first day profile valid after out is. stratum_day-out_of_reach a b site first valid after out day profile is;
}
