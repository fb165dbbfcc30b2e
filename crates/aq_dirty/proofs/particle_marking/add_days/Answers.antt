use Rattle.std.proofs.Common.{arith}
use Rattle.aq_dirty.proofs.DaySteps.{quarters-rise}
use Rattle.aq_dirty.proofs.particle_marking.add_days.Goals as goal

pub add_quarters-requires-clause-some : goal.add_quarters-requires-clause-some
add_quarters-requires-clause-some c =
    let end = c.requires.end in
    let rise = quarters-rise c.args.first c.args.last c.requires.some end in
    omega (arith, rise, c.quarter_of.ensures, c.quarter_of-2.ensures)
