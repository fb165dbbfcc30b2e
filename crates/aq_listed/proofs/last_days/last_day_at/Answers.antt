use Rattle.std.proofs.Common.{[], length, map, refl, ap, sym, ◌∙◌, arith}
use Rattle.std.specs.List.{cons_option}
use Rattle.aq_rules.specs.Listed.Monitors.{listed_monitor, monitors_of}
use Rattle.aq_series.proofs.SitePocs.{pocs-next}
use Rattle.aq_series.specs.OfficeView.{office_of}
use Rattle.aq_listed.specs.LastDay.{last_day_at, latest}
use Rattle.aq_listed.proofs.LatestDays.{all_monitors_done, later_monitor}
use Rattle.aq_listed.proofs.RegisteredMonitors.{all_monitors, monitor_of_poc, monitors_above, monitors_end, monitors_next}
use Rattle.aq_listed.proofs.last_days.last_day_at.Goals as goal

pub loop-poc-smaller : goal.loop-poc-smaller
loop-poc-smaller g c =
    let fewer = ap length (pocs-next c.args.site c.args.pollutant c.args.registry.now c.loop-poc.after c.in-Some.poc c.next_poc.ensures.valid.keys_rise.records (sym c.next_poc.ensures.value ∙ c.in-Some.is)) in
    omega (arith, fewer)

pub loop-poc-preserved : goal.loop-poc-preserved
loop-poc-preserved g c =
    later_monitor (listed_monitor (office_of c.args.registry.now c.args.shelf.now)) (latest (map (listed_monitor (office_of c.args.registry.now c.args.shelf.now)) (monitors_above c.args.registry.now c.args.site c.args.pollutant 0))) c.loop-poc.day (latest (map (listed_monitor (office_of c.args.registry.now c.args.shelf.now)) (cons_option (monitor_of_poc c.args.registry.now c.args.site c.args.pollutant c.in-Some.poc) []))) c.later_of_monitor-day.result (monitor_of_poc c.args.registry.now c.args.site c.args.pollutant c.in-Some.poc)
    (monitors_above c.args.registry.now c.args.site c.args.pollutant c.loop-poc.after) (monitors_above c.args.registry.now c.args.site c.args.pollutant c.in-Some.poc) c.later_of_monitor-day.ensures refl
    (monitors_next c.args.registry.now c.args.site c.args.pollutant c.loop-poc.after c.in-Some.poc c.next_poc.ensures.valid (sym c.next_poc.ensures.value ∙ c.in-Some.is)) c.loop-poc.invariant

pub returns-clause-day : goal.returns-clause-day
unfolding last_day_at
returns-clause-day g c =
    all_monitors_done (listed_monitor (office_of c.args.registry.now c.args.shelf.now)) c.loop-poc.day (monitors_above c.args.registry.now c.args.site c.args.pollutant c.loop-poc.after)
    (monitors_above c.args.registry.now c.args.site c.args.pollutant 0) (monitors_of (office_of c.args.registry.now c.args.shelf.now) c.args.site c.args.pollutant)
    (monitors_end c.args.registry.now c.args.site c.args.pollutant c.loop-poc.after (sym c.next_poc.ensures.value ∙ c.in_default.is)) c.loop-poc.invariant
    (all_monitors c.args.registry.now c.args.site c.args.pollutant c.next_poc.ensures.valid c.args.shelf.now)
