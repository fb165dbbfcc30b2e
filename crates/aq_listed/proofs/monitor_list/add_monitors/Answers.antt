use Rattle.std.proofs.Common.{length, ap, sym, ◌∙◌, arith}
use Rattle.aq_rules.specs.Listed.Monitors.{listed_monitor, monitors_of}
use Rattle.aq_series.proofs.SitePocs.{pocs-next}
use Rattle.aq_series.specs.OfficeView.{office_of}
use Rattle.aq_listed.proofs.MonitorRows.{all_listed, more_listed}
use Rattle.aq_listed.proofs.RegisteredMonitors.{all_monitors, monitor_of_poc, monitors_above, monitors_end, monitors_next}
use Rattle.aq_listed.proofs.monitor_list.add_monitors.Goals as goal

pub loop-poc-smaller : goal.loop-poc-smaller
loop-poc-smaller g c =
    let fewer = ap length (pocs-next c.args.site c.args.pollutant c.args.registry.now c.loop-poc.after c.in-Some.poc c.next_poc.ensures.valid.keys_rise.records (sym c.next_poc.ensures.value ∙ c.in-Some.is)) in
    omega (arith, fewer)

pub loop-poc-preserved : goal.loop-poc-preserved
loop-poc-preserved g c =
    more_listed (listed_monitor (office_of c.args.registry.now c.args.shelf.now)) _ c.loop-poc.rows c.add_monitor.new.rows (monitor_of_poc c.args.registry.now c.args.site c.args.pollutant c.in-Some.poc)
    (monitors_above c.args.registry.now c.args.site c.args.pollutant c.loop-poc.after) (monitors_above c.args.registry.now c.args.site c.args.pollutant c.in-Some.poc) c.in_ok-add_monitor.ensures
    (monitors_next c.args.registry.now c.args.site c.args.pollutant c.loop-poc.after c.in-Some.poc c.next_poc.ensures.valid (sym c.next_poc.ensures.value ∙ c.in-Some.is)) c.loop-poc.invariant

pub returns : goal.returns
returns g c =
    all_listed (listed_monitor (office_of c.args.registry.now c.args.shelf.now)) c.args.rows.now c.loop-poc.rows (monitors_above c.args.registry.now c.args.site c.args.pollutant c.loop-poc.after)
    (monitors_above c.args.registry.now c.args.site c.args.pollutant 0) (monitors_of (office_of c.args.registry.now c.args.shelf.now) c.args.site c.args.pollutant)
    (monitors_end c.args.registry.now c.args.site c.args.pollutant c.loop-poc.after (sym c.next_poc.ensures.value ∙ c.in_default.is)) c.loop-poc.invariant
    (all_monitors c.args.registry.now c.args.site c.args.pollutant c.next_poc.ensures.valid c.args.shelf.now)
