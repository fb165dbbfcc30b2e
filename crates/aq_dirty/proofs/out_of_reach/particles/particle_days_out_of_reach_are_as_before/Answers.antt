use Rattle.aq_dirty.proofs.OutOfReachLemmas.PmDays.{pm_day-out_of_reach}
use Rattle.aq_dirty.proofs.out_of_reach.particles.particle_days_out_of_reach_are_as_before.Goals as goal

pub returns : goal.returns
returns c a b site pollutant day profile valid after out = pm_day-out_of_reach a b site day profile valid after pollutant out
