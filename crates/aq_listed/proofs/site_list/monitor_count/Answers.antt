use Rattle.std.proofs.Common.{◌≡◌, length, ap, sym, ◌∙◌, arith}
use Rattle.aq_series.proofs.SitePocs.{pocs-end, pocs-few, pocs-next}
use Rattle.aq_series.specs.DayCells.{pocs_after}
use Rattle.aq_listed.proofs.MonitorCounts.{pocs-counted}
use Rattle.aq_listed.proofs.site_list.monitor_count.Goals as goal

pub overflow_add-count : goal.overflow_add-count
overflow_add-count c =
    let few = pocs-few c.args.site c.args.pollutant c.args.registry.now c.next_poc.ensures.valid in
    omega (arith, few, c.loop-poc.invariant)

pub loop-poc-smaller : goal.loop-poc-smaller
loop-poc-smaller c =
    let fewer = ap length (pocs-next c.args.site c.args.pollutant c.args.registry.now c.loop-poc.after c.in-Some.poc c.next_poc.ensures.valid.keys_rise.records (sym c.next_poc.ensures.value ∙ c.in-Some.is)) in
    omega (arith, fewer)

pub loop-poc-preserved : goal.loop-poc-preserved
loop-poc-preserved c =
    let fewer = ap length (pocs-next c.args.site c.args.pollutant c.args.registry.now c.loop-poc.after c.in-Some.poc c.next_poc.ensures.valid.keys_rise.records (sym c.next_poc.ensures.value ∙ c.in-Some.is)) in
    omega (arith, fewer, c.loop-poc.invariant)

pub returns-clause-count : goal.returns-clause-count
returns-clause-count c =
    let none = ap length (pocs-end c.args.site c.args.pollutant c.args.registry.now c.loop-poc.after (sym c.next_poc.ensures.value ∙ c.in_default.is)) in
    let all : c.loop-poc.count ≡ length (pocs_after c.args.registry.now c.args.site c.args.pollutant 0) = omega (arith, none, c.loop-poc.invariant) in
    all ∙ pocs-counted c.args.registry.now c.args.site c.args.pollutant c.next_poc.ensures.valid
