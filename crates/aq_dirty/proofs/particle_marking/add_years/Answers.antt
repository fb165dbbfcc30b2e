use Rattle.std.proofs.Common.{arith}
use Rattle.aq_dirty.proofs.DaySteps.{years-rise}
use Rattle.aq_dirty.proofs.particle_marking.add_years.Goals as goal

pub add-requires-clause-some : goal.add-requires-clause-some
add-requires-clause-some c =
    let end = c.requires.end in
    let rise = years-rise c.args.first c.args.last c.requires.some end in
    omega (arith, rise, c.civil_of.ensures.year, c.civil_of-2.ensures.year)
