use Rattle.aq_dirty.proofs.OutOfReachLemmas.PmQuarters.{scheduled_days-out_of_reach, values-out_of_reach, credits-out_of_reach, pm25_quarter-out_of_reach, pm10_quarter-out_of_reach}
use Rattle.aq_dirty.proofs.out_of_reach.quarters.quarters_out_of_reach_are_as_before.Goals as goal

pub returns : goal.returns
returns c = record {
  scheduled = λ a b site pollutant quarter inside valid after out. scheduled_days-out_of_reach a b site quarter valid after inside pollutant out;
  values = λ a b site pollutant quarter inside valid after out. values-out_of_reach a b site quarter valid after inside pollutant out;
  made_up = λ a b site quarter inside valid after out. credits-out_of_reach a b site quarter valid after inside out;
  pm25 = λ a b site quarter inside valid after out. pm25_quarter-out_of_reach a b site quarter valid after inside out;
  pm10 = λ a b site quarter inside valid after out. pm10_quarter-out_of_reach a b site quarter valid after inside out;
}
