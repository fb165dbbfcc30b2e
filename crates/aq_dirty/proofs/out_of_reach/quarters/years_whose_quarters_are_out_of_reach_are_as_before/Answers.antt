use Rattle.aq_dirty.proofs.OutOfReachLemmas.PmYears.{pm25_year-out_of_reach, pm25_summary-out_of_reach, pm10_year-out_of_reach}
use Rattle.aq_dirty.proofs.out_of_reach.quarters.years_whose_quarters_are_out_of_reach_are_as_before.Goals as goal

pub returns : goal.returns
returns c = record {
  pm25 = λ a b site year inside valid after out. pm25_year-out_of_reach a b site year valid after inside out;
  kept = λ a b site year inside valid after out. pm25_summary-out_of_reach a b site year valid after inside out;
  pm10 = λ a b site year inside valid after out. pm10_year-out_of_reach a b site year valid after inside out;
}
