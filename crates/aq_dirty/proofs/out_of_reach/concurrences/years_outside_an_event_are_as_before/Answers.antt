use Rattle.aq_dirty.proofs.OutOfReachLemmas.OutsideEvents.{as-before}
use Rattle.aq_dirty.proofs.out_of_reach.concurrences.years_outside_an_event_are_as_before.Goals as goal

pub returns : goal.returns
returns c office entry site pollutant first last code valid numbered stands = as-before office entry site pollutant first last code valid numbered stands
