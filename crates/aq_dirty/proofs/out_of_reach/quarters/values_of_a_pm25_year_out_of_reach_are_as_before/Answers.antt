use Rattle.aq_dirty.proofs.OutOfReachLemmas.PmYears.{values-out_of_reach, top-out_of_reach}
use Rattle.aq_dirty.proofs.out_of_reach.quarters.values_of_a_pm25_year_out_of_reach_are_as_before.Goals as goal

pub returns : goal.returns
returns c = record {
  values = λ a b site year inside valid after out. values-out_of_reach a b site year valid after inside out;
  greatest = λ a b site year inside valid after out. top-out_of_reach a b site year valid after inside out;
}
