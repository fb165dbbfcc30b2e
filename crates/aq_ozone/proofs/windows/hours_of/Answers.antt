use Rattle.std.proofs.Common.{◌≡◌, arith}
use Rattle.aq_ozone.proofs.DayLemmas.{joined, joined_ozone}
use Rattle.aq_ozone.proofs.windows.hours_of.Goals as goal

pub returns-clause-hours : goal.returns-clause-hours
returns-clause-hours c =
    let all : c.loop-i.i ≡ 24 = omega (arith, c.loop-i-test.false, c.loop-i.auto.i-end) in
    joined c.args.today.now c.args.tomorrow.now c.loop-i.hours c.loop-i.invariant.many
    (λ k low. c.loop-i.invariant.early k (omega (arith, all, low)) low) (λ k within. c.loop-i.invariant.late k (omega (arith, all, within)))

pub returns-clause-ozone : goal.returns-clause-ozone
returns-clause-ozone c =
    let all : c.loop-i.i ≡ 24 = omega (arith, c.loop-i-test.false, c.loop-i.auto.i-end) in
    joined_ozone c.args.today.now c.args.tomorrow.now c.loop-i.hours c.loop-i.invariant.many
    (λ k low. c.loop-i.invariant.early k (omega (arith, all, low)) low) (λ k within. c.loop-i.invariant.late k (omega (arith, all, within)))
    c.requires.today c.requires.tomorrow
