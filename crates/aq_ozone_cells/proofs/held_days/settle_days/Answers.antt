use Rattle.std.proofs.Common.{◌≡◌, ◌+◌, ◌∙◌, sym, subst, arith}
use Rattle.std.specs.Prelude.{IfSome}
use Rattle.aq_series.specs.Samples.{IsOzone}
use Rattle.aq_ozone_cells.specs.OzoneCells.{AreSettled}
use Rattle.aq_ozone_cells.specs.declared.kept_days.KeptAverage.{KeptAverage}
use Rattle.aq_ozone_cells.proofs.SettleLemmas.{already-now, settled-more, settled-none}
use Rattle.aq_ozone_cells.proofs.held_days.settle_days.Goals as goal

pub loop-i-init : goal.loop-i-init
loop-i-init g c = record {
  years = c.requires.years;
  ozone = c.requires.ozone;
  settled = settled-none c.args.registry.now c.args.days.now.days.entries c.args.site c.args.first;
  steps = omega arith;
  no_step = λ already. omega arith;
}

pub loop-i-preserved : goal.loop-i-preserved
loop-i-preserved g c =
    let at : c.args.first + c.loop-i.i ≡ c.new-day.result = omega (arith, c.new-day.ensures, c.number.ensures.value) in
    record {
      years = c.in_ok-exchange_day.ensures.years;
      ozone = λ site start.
          subst (λ (average : KeptAverage). IfSome average.net IsOzone) (sym (c.in_ok-exchange_day.ensures.averages site start)) (c.loop-i.invariant.ozone site start);
      settled =
          settled-more c.args.registry.now c.args.days.now.days.entries c.loop-i.days.days.entries c.exchange_day.new.days.days.entries c.args.site c.args.first c.loop-i.i c.new-day.result at
          c.loop-i.invariant.settled c.day_from-held.result c.day_from-held.ensures.day c.in_ok-exchange_day.ensures.days c.in_ok-exchange_day.ensures.hours c.in_ok-exchange_day.ensures.averages;
      steps = omega (arith, c.loop-i.invariant.steps, c.in_ok-exchange_day.ensures.steps);
      no_step = λ already.
          let still = already-now c.args.registry.now c.args.days.now.days.entries c.loop-i.days.days.entries c.args.site c.args.first c.args.count c.loop-i.i c.new-day.result at
          (omega (arith, c.loop-i-test.true, c.loop-i.auto.i-end)) c.loop-i.invariant.settled already in
          let next = c.in_ok-exchange_day.ensures.no_step (still ∙ sym c.day_from-held.ensures.day) in
          omega (arith, c.loop-i.invariant.no_step already, next);
    }

pub returns-clause-settled : goal.returns-clause-settled
returns-clause-settled g c =
    let all : c.loop-i.i ≡ c.args.count = omega (arith, c.loop-i-test.false, c.loop-i.auto.i-end) in
    subst (AreSettled c.args.registry.now c.args.days.now.days.entries c.loop-i.days.days.entries c.args.site c.args.first) all c.loop-i.invariant.settled

pub returns-in_err-exchange_day-clause-no_step : goal.returns-in_err-exchange_day-clause-no_step
returns-in_err-exchange_day-clause-no_step g c already =
    let at : c.args.first + c.loop-i.i ≡ c.new-day.result = omega (arith, c.new-day.ensures, c.number.ensures.value) in
    let still = already-now c.args.registry.now c.args.days.now.days.entries c.loop-i.days.days.entries c.args.site c.args.first c.args.count c.loop-i.i c.new-day.result at
    (omega (arith, c.loop-i-test.true, c.loop-i.auto.i-end)) c.loop-i.invariant.settled already in
    let next = c.in_err-exchange_day.ensures.no_step (still ∙ sym c.day_from-held.ensures.day) in
    omega (arith, c.loop-i.invariant.no_step already, next)
