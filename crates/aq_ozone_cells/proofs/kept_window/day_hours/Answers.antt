use Rattle.std.proofs.Common.{◌≡◌, ◌+◌, ◌*◌, ◌∙◌, sym, subst, arith}
use Rattle.aq_base.specs.Calendar.{hour_number}
use Rattle.aq_series.specs.Samples.{AreOzone}
use Rattle.aq_ozone.specs.DayHours.{day_hours}
use Rattle.aq_ozone.proofs.DayLemmas.{hours_are}
use Rattle.aq_ozone_cells.specs.KeptDays.{hour_at}
use Rattle.aq_ozone_cells.proofs.KeptDayLemmas.{hours-ozone, of-two}
use Rattle.aq_ozone_cells.proofs.kept_window.day_hours.Goals as goal

pub returns-clause-hours : goal.returns-clause-hours
returns-clause-hours c =
    let cells = c.args.days.now.days.entries in
    let number = c.number-number.result in
    let first = 24 * c.from.result + 7 in
    let all : c.loop-i.i ≡ 24 = omega (arith, c.loop-i-test.false, c.loop-i.auto.i-end) in
    let from : first ≡ 24 * number + 7 = omega (arith, c.from.ensures) in
    hours_are (hour_at cells c.args.site) c.args.day first c.loop-i.i c.loop-i.hours all
    (omega (arith, from, c.number-number.ensures.value)) (omega (arith, c.loop-i.invariant.many, all))
    (λ k within. c.loop-i.invariant.hours k within
    ∙ of-two cells c.args.site number c.day-today.result c.day-tomorrow.result c.day-today.ensures c.day-tomorrow.ensures
    (first + k) (omega (arith, from)) (omega (arith, from, within, all)))

pub returns-clause-ozone : goal.returns-clause-ozone
unfolding day_hours
returns-clause-ozone c =
    subst AreOzone (sym (returns-clause-hours c))
    (hours-ozone (hour_at c.args.days.now.days.entries c.args.site) (c.requires c.args.site) (hour_number c.args.day 7) 24)
