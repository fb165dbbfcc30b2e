use Rattle.std.proofs.Common.{arith}
use Rattle.std.proofs.lemmas.Int.{ints}
use Rattle.aq_series.proofs.Means.{mean_is}
use Rattle.aq_series.proofs.tally.Tally.mean.Goals as goal

pub returns-clause-range : goal.returns-clause-range
returns-clause-range c =
    let is = c.requires in
    mean_is 9999 c.args.self.sum c.from.result c.args.self.count c.if-self-eq0.false (omega (arith, is.few)) is.low (omega (arith, ints, is.high)) (omega (arith, ints, is.few, is.high)) c.from.ensures
