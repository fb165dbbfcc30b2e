use Rattle.std.proofs.Common.{◌+◌, ◌<◌, true, Some, sym, ap, ◌∙◌, arith}
use Rattle.std.specs.Prelude.{pos, false}
use Rattle.aq_base.specs.declared.monitor.Duration.{Duration}
use Rattle.aq_series.specs.DayCells.{cells_in, hours_of}
use Rattle.aq_series.specs.declared.day_tally.DayTally.{DayTally}
use Rattle.aq_series.proofs.MonitorDay.{daily-day, hourly-day}
use Rattle.aq_series.proofs.day_spans.monitor_days.Goals as goal

pub returns-in-Hour-clause-days : goal.returns-in-Hour-clause-days
returns-in-Hour-clause-days g c k within =
    let d : DayTally = record { count = 0; sum = pos 0; excluded = false } in
    let small : k < 92 = omega (arith, within, c.requires.few) in
    c.days_of.ensures.days k d small (cells_in c.args.registry.now c.args.shelf.now c.args.monitor.now (hours_of (c.args.first + k))) (c.day_tallies-tallies.ensures.tallies k d small)
    ∙ hourly-day c.args.registry.now c.args.shelf.now c.args.monitor.now (c.args.first + k) c.requires.valid c.count.ensures.shelf.rising
    (ap (λ (duration : Duration). Some (duration, true)) (sym c.in-Hour.is) ∙ c.requires.registered)

pub returns-in-Day-clause-days : goal.returns-in-Day-clause-days
returns-in-Day-clause-days g c k within =
    c.sampled_days.ensures.days k within
    ∙ daily-day c.args.registry.now c.args.shelf.now c.args.monitor.now (c.args.first + k) c.requires.valid c.count.ensures.shelf.rising
    (ap (λ (duration : Duration). Some (duration, true)) (sym c.in-Day.is) ∙ c.requires.registered)
