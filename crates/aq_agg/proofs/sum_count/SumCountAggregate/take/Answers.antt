use Rattle.std.proofs.Common.{◌∙◌, w32}
use Rattle.std.proofs.lemmas.Int.{to_z-of_z}
use Rattle.aq_agg.proofs.Sums.{taken-fits, taken}
use Rattle.aq_agg.proofs.sum_count.SumCountAggregate.take.Goals as goal

pub overflow_sub-self : goal.overflow_sub-self
overflow_sub-self c =
    taken-fits c.requires.rest c.args.self.now.sum c.args.item c.from.result c.args.self.now.number (c.from.ensures ∙ to_z-of_z w32 c.args.item c.ranges.item) c.requires.whole

pub returns : goal.returns
returns c rest of =
    taken c.requires.rest c.args.self.now.sum c.args.item c.from.result c.args.self.now.number (c.from.ensures ∙ to_z-of_z w32 c.args.item c.ranges.item) c.requires.whole rest of
