use Rattle.std.proofs.Common.{◌++◌, sym, ◌∙◌, arith}
use Rattle.aq_series.specs.OfficeView.{office_of}
use Rattle.aq_listed.proofs.MonitorsByPoc.{fewer_left, months_all, months_done, months_left, months_step}
use Rattle.aq_listed.proofs.monitor_months.listed_months.Goals as goal

pub loop-poc-init : goal.loop-poc-init
loop-poc-init g c =
    let office = office_of c.args.registry.now c.args.shelf.now in
    let none = c.new-rows.ensures in
    (λ i. none i ++ months_left office c.args.site c.args.pollutant c.args.year 0)
    ∙ months_all office c.args.site c.args.pollutant c.args.year c.next_poc.ensures.valid

pub loop-poc-smaller : goal.loop-poc-smaller
loop-poc-smaller g c =
    let office = office_of c.args.registry.now c.args.shelf.now in
    let one = fewer_left office c.args.site c.args.pollutant c.args.year c.loop-poc.after c.in-Some.poc c.next_poc.ensures.valid (sym c.next_poc-in-loop-poc.ensures.value ∙ c.in-Some.is) in
    omega (arith, one)

pub loop-poc-preserved : goal.loop-poc-preserved
loop-poc-preserved g c =
    let office = office_of c.args.registry.now c.args.shelf.now in
    months_step office c.args.site c.args.pollutant c.args.year c.loop-poc.after c.in-Some.poc c.loop-poc.rows c.add_monitor.new.rows c.next_poc.ensures.valid (sym c.next_poc-in-loop-poc.ensures.value ∙ c.in-Some.is)
    c.in_ok-add_monitor.ensures c.loop-poc.invariant

pub returns : goal.returns
returns g c =
    let office = office_of c.args.registry.now c.args.shelf.now in
    months_done office c.args.site c.args.pollutant c.args.year c.loop-poc.after c.loop-poc.rows (sym c.next_poc-in-loop-poc.ensures.value ∙ c.in_default.is) c.loop-poc.invariant
