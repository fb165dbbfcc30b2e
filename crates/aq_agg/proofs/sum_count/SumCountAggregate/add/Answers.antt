use Rattle.std.proofs.Common.{◌∙◌, w32}
use Rattle.std.proofs.lemmas.Int.{to_z-of_z}
use Rattle.aq_agg.proofs.Sums.{added-fits, added, whole_32}
use Rattle.aq_agg.proofs.sum_count.SumCountAggregate.add.Goals as goal

pub overflow_add-self : goal.overflow_add-self
overflow_add-self c =
    let has = c.requires.room in
    added-fits has.bag c.args.self.now.sum c.args.item c.from.result c.args.self.now.number (whole_32 c.args.item c.ranges.item) (c.from.ensures ∙ to_z-of_z w32 c.args.item c.ranges.item) has.whole has.few

pub returns-clause-ok : goal.returns-clause-ok
returns-clause-ok c bag of =
    let has = c.requires.room in
    added has.bag c.args.self.now.sum c.args.item c.from.result c.args.self.now.number (whole_32 c.args.item c.ranges.item) (c.from.ensures ∙ to_z-of_z w32 c.args.item c.ranges.item) has.whole has.few bag of
