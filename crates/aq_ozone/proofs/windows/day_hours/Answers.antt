use Rattle.std.proofs.Common.{◌≡◌, arith}
use Rattle.aq_ozone.proofs.DayLemmas.{hours_are, ozone_by}
use Rattle.aq_ozone.proofs.windows.day_hours.Goals as goal

pub returns-clause-hours : goal.returns-clause-hours
returns-clause-hours g c =
    let all : c.loop-i.i ≡ 24 = omega (arith, c.loop-i-test.false, c.loop-i.auto.i-end) in
    hours_are (g.S.OzoneSource.cell_at c.args.source.now) c.args.day _ c.loop-i.i c.loop-i.hours all
    (omega (arith, c.from.ensures, c.number.ensures.value)) (omega (arith, c.loop-i.invariant.many, all)) c.loop-i.invariant.hours

pub returns-clause-ozone : goal.returns-clause-ozone
returns-clause-ozone g c = ozone_by c.loop-i.hours c.loop-i.invariant.ozone
