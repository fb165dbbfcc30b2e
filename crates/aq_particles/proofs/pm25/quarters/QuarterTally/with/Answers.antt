use Rattle.aq_particles.proofs.Pm25Lemmas.DayTallies.{tally-more}
use Rattle.aq_particles.proofs.pm25.quarters.QuarterTally.with.Goals as goal

pub returns-clause-tally : goal.returns-clause-tally
returns-clause-tally c before days is =
    tally-more before days c.args.day c.args.self c.from.result c.from-2.result c.from-3.result c.with.result is c.from.ensures c.from-2.ensures c.from-3.ensures (c.with.ensures.values before)
