use Rattle.aq_dirty.proofs.OutOfReachLemmas.StrataReached.{strata-out_of_reach, strata-back, samples-out_of_reach, number-out_of_reach, exceedances-out_of_reach}
use Rattle.aq_dirty.proofs.out_of_reach.strata.strata_out_of_reach_are_as_before.Goals as goal

pub returns : goal.returns
returns c = record {
  strata = λ a b site quarter first days inside valid after out has. strata-out_of_reach a b site first valid after out quarter inside days has;
  new_strata = λ a b site quarter first days inside valid after out has. strata-back a b site first valid after out quarter inside days has;
  samples = λ a b site quarter first days inside valid after out has. samples-out_of_reach a b site first valid after out quarter inside days has;
  number = λ a b site quarter first days inside valid after out has. number-out_of_reach a b site first valid after out quarter inside days has;
  exceedances = λ a b site quarter first days inside valid after out has. exceedances-out_of_reach a b site first valid after out quarter inside days has;
}
