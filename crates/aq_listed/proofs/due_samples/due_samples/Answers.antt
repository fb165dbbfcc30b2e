use Rattle.std.proofs.Common.{◌*◌, length, ap, sym, ◌∙◌}
use Rattle.std.specs.List.{range_with_len}
use Rattle.aq_base.specs.declared.monitor.Duration.{Duration}
use Rattle.aq_rules.specs.Listed.Completeness.{due_hours}
use Rattle.aq_rules.specs.Office.Schedule.{is_scheduled}
use Rattle.aq_registry.specs.Registry.{office_with}
use Rattle.aq_listed.proofs.DueHours.{daily-length, hourly-length}
use Rattle.aq_listed.proofs.due_samples.due_samples.Goals as goal

pub returns-in-Hour : goal.returns-in-Hour
returns-in-Hour c =
    let days = range_with_len c.args.first c.args.days in
    ap (λ n. 24 * n) c.from.ensures ∙ sym (hourly-length c.args.days c.args.first)
    ∙ ap (λ (d : Duration). length (due_hours (office_with c.args.registry.now) c.args.monitor.now d days)) (sym c.in-Hour.is)

pub returns-in-Day : goal.returns-in-Day
returns-in-Day c =
    let days = range_with_len c.args.first c.args.days in
    c.from-in-Day.ensures ∙ c.scheduled_days.ensures
    ∙ sym (daily-length (is_scheduled c.args.registry.now c.args.monitor.now.site c.args.monitor.now.pollutant) days)
    ∙ ap (λ (d : Duration). length (due_hours (office_with c.args.registry.now) c.args.monitor.now d days)) (sym c.in-Day.is)
