use Rattle.std.proofs.Common.{Some, None, refl, ap, sym, ◌∙◌, arith}
use Rattle.aq_series.specs.DayCells.{cell_at, cells_in, hours_of}
use Rattle.aq_series.proofs.MonitorDay.{daily-day, hourly-day, steps-lasting, uncounted-day}
use Rattle.aq_series.proofs.days.measured_day.Goals as goal

pub returns-in_err-duration-clause-value : goal.returns-in_err-duration-clause-value
returns-in_err-duration-clause-value g c =
    c.from_residual.ensures
    ∙ uncounted-day c.args.registry.now c.args.shelf.now c.args.monitor.now c.args.day c.requires.valid c.count.ensures.shelf.rising None (sym c.in_err-duration.was ∙ c.monitor.ensures) refl

pub returns-then-not-eligible-clause-value : goal.returns-then-not-eligible-clause-value
returns-then-not-eligible-clause-value g c =
    uncounted-day c.args.registry.now c.args.shelf.now c.args.monitor.now c.args.day c.requires.valid c.count.ensures.shelf.rising (Some (c.in_ok-duration.duration, c.in_ok-duration.eligible)) (sym c.in_ok-duration.was ∙ c.monitor.ensures) c.if-not-eligible.true

pub returns-in-Hour-clause-value : goal.returns-in-Hour-clause-value
returns-in-Hour-clause-value g c =
    c.day.ensures.value (cells_in c.args.registry.now c.args.shelf.now c.args.monitor.now (hours_of c.args.day)) c.hours_of.ensures.tally
    ∙ hourly-day c.args.registry.now c.args.shelf.now c.args.monitor.now c.args.day c.requires.valid c.count.ensures.shelf.rising
    ((λ i. Some (sym c.in-Hour.is i, sym c.if-not-eligible.false i)) ∙ sym c.in_ok-duration.was ∙ c.monitor.ensures)

pub returns-in-Hour-clause-steps : goal.returns-in-Hour-clause-steps
returns-in-Hour-clause-steps g c =
    omega (arith, c.hours_of.ensures.steps, steps-lasting c.args.monitor.now c.args.registry.now c.in_ok-duration.duration _ c.in_ok-duration.eligible (sym c.in_ok-duration.was ∙ c.monitor.ensures) c.in-Hour.is)

pub returns-in-Day-clause-value : goal.returns-in-Day-clause-value
returns-in-Day-clause-value g c =
    c.cell_at.ensures.value
    ∙ ap (cell_at c.args.registry.now c.args.shelf.now c.args.monitor.now) (omega (arith, c.from.ensures, c.number.ensures.value))
    ∙ daily-day c.args.registry.now c.args.shelf.now c.args.monitor.now c.args.day c.requires.valid c.count.ensures.shelf.rising
    ((λ i. Some (sym c.in-Day.is i, sym c.if-not-eligible.false i)) ∙ sym c.in_ok-duration.was ∙ c.monitor.ensures)

pub returns-in-Day-clause-steps : goal.returns-in-Day-clause-steps
returns-in-Day-clause-steps g c =
    omega (arith, c.cell_at.ensures.steps, steps-lasting c.args.monitor.now c.args.registry.now c.in_ok-duration.duration _ c.in_ok-duration.eligible (sym c.in_ok-duration.was ∙ c.monitor.ensures) c.in-Day.is)
