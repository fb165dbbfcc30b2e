use Rattle.std.proofs.Common.{◌≡◌, None, arith}
use Rattle.aq_ozone_cells.specs.OzoneCells.{hour_in_profile}
use Rattle.aq_ozone.proofs.DayLemmas.{list_by, ozone_by}
use Rattle.aq_ozone_cells.proofs.kept_window.eight_hours.Goals as goal

pub returns-clause-hours : goal.returns-clause-hours
returns-clause-hours c =
    let all : c.loop-i.i ≡ 8 = omega (arith, c.loop-i-test.false, c.loop-i.auto.i-end) in
    list_by None (hour_in_profile c.args.days.now.days.entries c.args.site) c.loop-i.hours c.args.first 8 c.loop-i.invariant.many
    (λ k within. c.loop-i.invariant.hours k (omega (arith, all, within)))

pub returns-clause-ozone : goal.returns-clause-ozone
returns-clause-ozone c = ozone_by c.loop-i.hours c.loop-i.invariant.ozone
