use Rattle.aq_agg.proofs.Greatest.{first-ranked}
use Rattle.aq_agg.proofs.max_of.MaxOfAggregate.answer.Goals as goal

pub returns : goal.returns
returns c bag are = rw (c.answer.ensures bag are) (first-ranked bag)
