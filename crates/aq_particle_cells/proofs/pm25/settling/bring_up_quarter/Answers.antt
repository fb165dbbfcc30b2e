use Rattle.std.proofs.Common.{◌≡◌, false, rules, subst, sym, tests}
use Rattle.aq_base.specs.declared.monitor.Pollutant.{Pollutant}
use Rattle.aq_base.specs.declared.monitor.Pollutant.TheVariants.{Pm25}
use Rattle.aq_rules.specs.Kept.Cells.{QuarterCell}
use Rattle.aq_rules.specs.Office.Monitors.{is_same_pollutant}
use Rattle.aq_series.specs.OfficeView.{office_of}
use Rattle.aq_particle_cells.specs.Pm25.Pm25Levels.{IsCellOf}
use Rattle.aq_particle_cells.proofs.Pm25Lemmas.Pm25Settled.{cells-stay-still, other-quarter, quarter-now, quarter-stay}
use Rattle.aq_particle_cells.proofs.Pm25Lemmas.Pm25Steps.{quarter-paid}
use Rattle.aq_particle_cells.proofs.pm25.settling.bring_up_quarter.Goals as goal

pub returns-then-ne-clause-stay : goal.returns-then-ne-clause-stay
returns-then-ne-clause-stay g c rows = cells-stay-still (office_of c.args.registry.now rows) c.args.cells.now

pub returns-then-ne-clause-cell : goal.returns-then-ne-clause-cell
returns-then-ne-clause-cell g c rows =
    let off : is_same_pollutant c.args.pollutant Pm25 ≡ false = search (rules, tests) in
    other-quarter (office_of c.args.registry.now rows) c.args.cells.now c.args.site c.args.pollutant c.args.quarter off

pub returns-clause-stay : goal.returns-clause-stay
returns-clause-stay g c rows =
    quarter-stay (office_of c.args.registry.now rows) c.args.cells.now c.settle_quarter.new.self c.args.site c.args.quarter c.in_ok-settle_quarter.ensures.cells c.in_ok-settle_quarter.ensures.samples

pub returns-clause-cell : goal.returns-clause-cell
returns-clause-cell g c rows =
    let office = office_of c.args.registry.now rows in
    let same : c.args.pollutant ≡ Pm25 = search (rules, tests) in
    subst (λ (p : Pollutant). IsCellOf office c.settle_quarter.new.self (QuarterCell c.args.site p c.args.quarter)) (sym same)
    (quarter-now office c.args.cells.now c.settle_quarter.new.self c.args.site c.args.quarter c.in_ok-settle_quarter.ensures.cells c.in_ok-settle_quarter.ensures.samples)

pub returns-clause-steps : goal.returns-clause-steps
returns-clause-steps g c rows enough are =
    let same : c.args.pollutant ≡ Pm25 = search (rules, tests) in
    quarter-paid (office_of c.args.registry.now rows) c.args.cells.now enough are c.args.site c.args.steps.now c.settle_quarter.new.steps c.args.quarter c.args.pollutant same
    c.in_ok-settle_quarter.ensures.steps c.in_ok-settle_quarter.ensures.no_step

pub returns-in_err-settle_quarter-clause-steps : goal.returns-in_err-settle_quarter-clause-steps
returns-in_err-settle_quarter-clause-steps g c rows enough are =
    let same : c.args.pollutant ≡ Pm25 = search (rules, tests) in
    quarter-paid (office_of c.args.registry.now rows) c.args.cells.now enough are c.args.site c.args.steps.now c.settle_quarter.new.steps c.args.quarter c.args.pollutant same
    c.in_err-settle_quarter.ensures.steps c.in_err-settle_quarter.ensures.no_step
