use Rattle.aq_agg.proofs.Strata.{taken}
use Rattle.aq_agg.proofs.stratum_sum.StratumSumAggregate.take.Goals as goal

pub returns : goal.returns
returns c rest of = taken rest c.args.item c.args.self.now.number c.args.self.now.sum c.sixtieths.result of c.sixtieths.ensures.value
