use Rattle.std.proofs.Common.{rules, ◌+◌, ◌<◌, ◌^◌, arith}
use Rattle.aq_particle_cells.proofs.Pm10Lemmas.TotalsRoom.{exceedances-fit, samples-fit}
use Rattle.aq_particle_cells.proofs.pm10.strata_totals.StrataTotalsAggregate.add.Goals as goal

pub overflow_add-self : goal.overflow_add-self
overflow_add-self c =
    let has = c.requires.room in
    let most = c.requires.item.1 in
    let fits : c.args.self.now.samples + c.from.result < 2 ^ 64 = samples-fit has.bag c.args.self.now has.whole has.few c.from.result (omega (arith, most, c.from.ensures)) in
    search rules

pub overflow_add-self-2 : goal.overflow_add-self-2
overflow_add-self-2 c =
    let has = c.requires.room in
    let most = c.requires.item.2 in
    let fits : c.args.self.now.exceedances + c.from-2.result < 2 ^ 64 = exceedances-fit has.bag c.args.self.now has.whole has.few c.from-2.result (omega (arith, most, c.from-2.ensures)) in
    search rules
