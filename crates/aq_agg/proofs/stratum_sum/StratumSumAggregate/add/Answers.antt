use Rattle.std.proofs.Common.{rules, ◌+◌, ◌<◌, ◌^◌}
use Rattle.aq_agg.proofs.Strata.{room}
use Rattle.aq_agg.proofs.stratum_sum.StratumSumAggregate.add.Goals as goal

pub overflow_add-self : goal.overflow_add-self
overflow_add-self c =
    let has = c.requires.room in
    let fits : c.args.self.now.sum + c.sixtieths.result < 2 ^ 64 =
    room has.bag c.args.self.now.number c.args.self.now.sum c.sixtieths.result has.whole has.few c.sixtieths.ensures.most
    in
    search rules
