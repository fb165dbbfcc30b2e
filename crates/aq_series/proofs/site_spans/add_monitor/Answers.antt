use Rattle.std.proofs.Common.{◌+◌, None, Some, Option, get_or, refl, subst, sym, ◌∙◌, arith}
use Rattle.aq_rules.specs.Ozone.SiteHour.{Cell}
use Rattle.aq_series.specs.DaySums.{AddsDay}
use Rattle.aq_series.proofs.MonitorDay.{uncounted-day}
use Rattle.aq_series.proofs.SiteSpans.{adds-none}
use Rattle.aq_series.proofs.site_spans.add_monitor.Goals as goal

pub returns-in_default-clause-days : goal.returns-in_default-clause-days
returns-in_default-clause-days g c k d within =
    subst (λ (cell : Option Cell). AddsDay c.args.monitor.now.poc cell (get_or c.args.states.now k d) (get_or c.args.states.now k d))
    (uncounted-day c.args.registry.now c.args.shelf.now c.args.monitor.now (c.args.first + k) c.requires.valid c.count.ensures.shelf.rising None (sym c.in_default.is ∙ c.monitor.ensures) refl)
    (adds-none c.args.monitor.now.poc (get_or c.args.states.now k d) (c.requires.room k d (omega (arith, within, c.requires.few))))

pub returns-else-eligible-clause-days : goal.returns-else-eligible-clause-days
returns-else-eligible-clause-days g c k d within =
    subst (λ (cell : Option Cell). AddsDay c.args.monitor.now.poc cell (get_or c.args.states.now k d) (get_or c.args.states.now k d))
    (uncounted-day c.args.registry.now c.args.shelf.now c.args.monitor.now (c.args.first + k) c.requires.valid c.count.ensures.shelf.rising (Some (c.in-Some.duration, c.in-Some.eligible)) (sym c.in-Some.is ∙ c.monitor.ensures) c.if-eligible.false)
    (adds-none c.args.monitor.now.poc (get_or c.args.states.now k d) (c.requires.room k d (omega (arith, within, c.requires.few))))
