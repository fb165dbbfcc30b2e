use Rattle.std.proofs.Common.{ap, arith}
use Rattle.aq_base.specs.Calendar.{year_of}
use Rattle.aq_dirty.proofs.Years.{years-rise}
use Rattle.aq_dirty.proofs.marking.add_read_days.Goals as goal

pub add-requires-2-clause-some : goal.add-requires-2-clause-some
add-requires-2-clause-some c =
    let rise = years-rise c.args.first c.args.last c.requires.some c.requires.end in
    let first = ap year_of c.day_reading-first.ensures in
    let last = ap year_of c.day_reading-last.ensures in
    omega (arith, rise, first, last, c.civil_of.ensures.year, c.civil_of-2.ensures.year)
