use Rattle.std.proofs.Common.{◌≡◌, arith, false, refl, rules, subst, sym, tests}
use Rattle.aq_base.specs.declared.monitor.Pollutant.{Pollutant}
use Rattle.aq_base.specs.declared.monitor.Pollutant.TheVariants.{Pm25}
use Rattle.aq_rules.specs.Kept.Cells.{PmDayCell}
use Rattle.aq_rules.specs.Office.Monitors.{is_same_pollutant}
use Rattle.aq_series.specs.OfficeView.{office_of}
use Rattle.aq_particle_cells.specs.Pm25.Pm25Levels.{IsCellOf}
use Rattle.aq_particle_cells.proofs.Pm25Lemmas.Pm25Settled.{cells-stay-still, day-now, day-stay, other-day}
use Rattle.aq_particle_cells.proofs.Pm25Lemmas.Pm25Steps.{day-paid}
use Rattle.aq_particle_cells.proofs.pm25.settling.bring_up_day.Goals as goal

pub returns-then-ne-clause-stay : goal.returns-then-ne-clause-stay
returns-then-ne-clause-stay g c = cells-stay-still (office_of c.args.registry.now c.args.shelf.now) c.args.cells.now

pub returns-then-ne-clause-cell : goal.returns-then-ne-clause-cell
returns-then-ne-clause-cell g c =
    let off : is_same_pollutant c.args.pollutant Pm25 ≡ false = search (rules, tests) in
    other-day (office_of c.args.registry.now c.args.shelf.now) c.args.cells.now c.args.site c.args.pollutant c.args.day off

pub returns-clause-stay : goal.returns-clause-stay
returns-clause-stay g c =
    day-stay c.args.registry.now c.next_poc.ensures.valid c.args.cells.now c.change_day.new.self c.args.site c.args.day c.site_day-new.result
    c.in_ok-change_day.ensures.cells c.in_ok-change_day.ensures.samples (office_of c.args.registry.now c.args.shelf.now) refl c.site_day-new.ensures.value

pub returns-clause-cell : goal.returns-clause-cell
returns-clause-cell g c =
    let office = office_of c.args.registry.now c.args.shelf.now in
    let same : c.args.pollutant ≡ Pm25 = search (rules, tests) in
    subst (λ (p : Pollutant). IsCellOf office c.change_day.new.self (PmDayCell c.args.site p c.args.day)) (sym same)
    (day-now c.args.registry.now c.next_poc.ensures.valid c.args.cells.now c.change_day.new.self c.args.site c.args.day c.site_day-new.result
    c.in_ok-change_day.ensures.cells c.in_ok-change_day.ensures.samples office refl c.site_day-new.ensures.value)

pub returns-clause-steps : goal.returns-clause-steps
returns-clause-steps g c enough are =
    let same : c.args.pollutant ≡ Pm25 = search (rules, tests) in
    day-paid (office_of c.args.registry.now c.args.shelf.now) c.args.cells.now enough are c.args.site c.args.steps.now c.change_day.new.steps c.args.day c.args.pollutant same
    (omega (arith, c.site_day-new.ensures.steps, c.in_ok-change_day.ensures.steps))

pub returns-in_err-change_day-clause-steps : goal.returns-in_err-change_day-clause-steps
returns-in_err-change_day-clause-steps g c enough are =
    let same : c.args.pollutant ≡ Pm25 = search (rules, tests) in
    day-paid (office_of c.args.registry.now c.args.shelf.now) c.args.cells.now enough are c.args.site c.args.steps.now c.change_day.new.steps c.args.day c.args.pollutant same
    (omega (arith, c.site_day-new.ensures.steps, c.in_err-change_day.ensures.steps))
