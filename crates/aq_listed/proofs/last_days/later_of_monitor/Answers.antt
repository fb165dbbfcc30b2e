use Rattle.std.proofs.Common.{ap, sym, refl, ◌∙◌}
use Rattle.aq_rules.specs.Listed.Monitors.{RegisteredMonitor, listed_monitor}
use Rattle.aq_rules.specs.Office.Questions.{registration_of}
use Rattle.aq_series.specs.OfficeView.{office_of}
use Rattle.aq_listed.specs.LastDay.{later, latest}
use Rattle.aq_listed.proofs.LatestDays.{later-none}
use Rattle.aq_listed.proofs.MonitorRows.{one_listed}
use Rattle.aq_listed.proofs.last_days.later_of_monitor.Goals as goal

pub returns-in-Some : goal.returns-in-Some
returns-in-Some g c =
    let row = listed_monitor (office_of c.args.registry.now c.args.shelf.now) in
    let one : RegisteredMonitor = record { id = c.args.id.now; duration = c.in-Some.field-0.0; eligible = c.in-Some.field-0.1 } in
    c.later.ensures
    ∙ c.last_since-last.ensures c.args.registry.now one refl
    ∙ ap (later c.args.day)
    (sym (later-none (row one).last)
    ∙ sym (ap latest (one_listed row c.args.id.now (registration_of c.args.registry.now c.args.id.now) c.monitor.result c.in-Some.field-0 c.monitor.ensures c.in-Some.is)))
