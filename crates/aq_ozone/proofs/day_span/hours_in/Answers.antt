use Rattle.std.proofs.Common.{◌≡◌, arith}
use Rattle.aq_ozone.proofs.DayLemmas.{part, part_ozone}
use Rattle.aq_ozone.proofs.day_span.hours_in.Goals as goal

pub returns-clause-hours : goal.returns-clause-hours
returns-clause-hours c =
    let all : c.loop-i.i ≡ 24 = omega (arith, c.loop-i-test.false, c.loop-i.auto.i-end) in
    part c.args.span.now c.loop-i.hours c.args.day c.requires.day c.loop-i.invariant.many (λ k below. c.loop-i.invariant.each k (omega (arith, all, below)))

pub returns-clause-ozone : goal.returns-clause-ozone
returns-clause-ozone c =
    let all : c.loop-i.i ≡ 24 = omega (arith, c.loop-i-test.false, c.loop-i.auto.i-end) in
    part_ozone c.args.span.now c.loop-i.hours c.args.day c.requires.day c.loop-i.invariant.many (λ k below. c.loop-i.invariant.each k (omega (arith, all, below))) c.requires.ozone
