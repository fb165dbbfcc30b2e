use Rattle.std.proofs.Common.{List, sym, subst, arith}
use Rattle.aq_dirty.specs.Marked.{named}
use Rattle.aq_series.specs.OfficeView.{office_of}
use Rattle.aq_ozone_cells.specs.Settling.{AreWeeksOf}
use Rattle.aq_ozone_cells.specs.declared.filling.Week.{Week}
use Rattle.aq_ozone_cells.proofs.CellSteps.{fewer-one, one-least, one-less, others-week, stay-same, week-fewer, week-least, week-paid}
use Rattle.aq_ozone_cells.proofs.NextCells.{below-next, others-next}
use Rattle.aq_ozone_cells.proofs.SettledCells.{nothing-to_do}
use Rattle.aq_ozone_cells.proofs.WeekCells.{weeks-at, weeks-stay}
use Rattle.aq_ozone_cells.proofs.settling.settle_next.Goals as goal

-- ---- one of the weeks has it

pub returns-then-have-clause-others : goal.returns-then-have-clause-others
returns-then-have-clause-others g c =
    let office = office_of c.args.registry.now c.args.shelf.now in
    others-next office c.args.cells.now c.args.dirty.now c.requires.others c.args.cells.now c.settle.new.self (named c.args.cell.now)
    (nothing-to_do office c.args.cells.now (named c.args.cell.now)
    (weeks-at office c.args.cells.now c.args.weeks.now.weeks.items c.requires.weeks (named c.args.cell.now) (c.have.ensures.found c.if-have.true)))
    c.settle.ensures

pub returns-then-have-clause-stay : goal.returns-then-have-clause-stay
returns-then-have-clause-stay g c = stay-same (office_of c.args.registry.now c.args.shelf.now) c.args.cells.now

pub returns-then-have-clause-fewer : goal.returns-then-have-clause-fewer
returns-then-have-clause-fewer g c = fewer-one c.args.dirty.now c.settle.new.self (named c.args.cell.now) c.requires.held c.settle.ensures

pub returns-then-have-clause-paid : goal.returns-then-have-clause-paid
returns-then-have-clause-paid g c enough are =
    let less = one-less enough c.args.dirty.now c.settle.new.self (named c.args.cell.now) c.requires.held c.settle.ensures in
    omega (arith, less)

-- ---- a week begins with it

pub returns-in-Some-clause-others : goal.returns-in-Some-clause-others
returns-in-Some-clause-others g c =
    others-week c.args.dirty.now c.settle_hours.new.self c.in-Some.week c.in-Some.ensures.begun c.settle_hours.ensures
    (office_of c.args.registry.now c.args.shelf.now) c.args.cells.now c.fill_ahead.new.cells c.requires.others c.in_ok-fill_ahead.ensures.stay c.in_ok-fill_ahead.ensures.filled

pub returns-in-Some-clause-fewer : goal.returns-in-Some-clause-fewer
returns-in-Some-clause-fewer g c = week-fewer c.args.dirty.now c.settle_hours.new.self c.in-Some.week c.in-Some.ensures.begun c.settle_hours.ensures

pub returns-in-Some-clause-paid : goal.returns-in-Some-clause-paid
returns-in-Some-clause-paid g c enough are =
    let less = week-paid c.args.dirty.now c.settle_hours.new.self c.in-Some.week c.in-Some.ensures.begun c.settle_hours.ensures enough are.hours in
    omega (arith, less, c.in_ok-fill_ahead.ensures.steps)

pub returns-in-Some-clause-steps : goal.returns-in-Some-clause-steps
returns-in-Some-clause-steps g c enough are =
    let less = week-paid c.args.dirty.now c.settle_hours.new.self c.in-Some.week c.in-Some.ensures.begun c.settle_hours.ensures enough are.hours in
    omega (arith, less, c.in_ok-fill_ahead.ensures.steps)

pub returns-in_err-fill_ahead-clause-steps : goal.returns-in_err-fill_ahead-clause-steps
returns-in_err-fill_ahead-clause-steps g c enough are =
    let least = week-least c.args.dirty.now c.in-Some.week c.in-Some.ensures.begun enough are.hours in
    omega (arith, least, c.in_err-fill_ahead.ensures.steps)

-- ---- else

pub bring_up-requires : goal.bring_up-requires
bring_up-requires g c = below-next (office_of c.args.registry.now c.args.shelf.now) c.args.cells.now c.args.dirty.now c.requires.others c.args.cell.now (sym c.requires.next)

pub returns-clause-others : goal.returns-clause-others
returns-clause-others g c =
    others-next (office_of c.args.registry.now c.args.shelf.now) c.args.cells.now c.args.dirty.now c.requires.others c.bring_up.new.cells c.settle-2.new.self (named c.args.cell.now) c.in_ok-bring_up.ensures.up c.settle-2.ensures

pub returns-clause-weeks : goal.returns-clause-weeks
returns-clause-weeks g c =
    let office = office_of c.args.registry.now c.args.shelf.now in
    weeks-stay office c.args.cells.now c.bring_up.new.cells c.have.new.self.weeks.items c.in_ok-bring_up.ensures.up.stay
    (subst (λ (weeks : List Week). AreWeeksOf office c.args.cells.now weeks) (sym c.have.ensures.same) c.requires.weeks)

pub returns-clause-fewer : goal.returns-clause-fewer
returns-clause-fewer g c = fewer-one c.args.dirty.now c.settle-2.new.self (named c.args.cell.now) c.requires.held c.settle-2.ensures

pub returns-clause-paid : goal.returns-clause-paid
returns-clause-paid g c enough are =
    let less = one-less enough c.args.dirty.now c.settle-2.new.self (named c.args.cell.now) c.requires.held c.settle-2.ensures in
    let made = c.in_ok-bring_up.ensures.steps enough are in
    omega (arith, less, made)

pub returns-clause-steps : goal.returns-clause-steps
returns-clause-steps g c enough are =
    let less = one-less enough c.args.dirty.now c.settle-2.new.self (named c.args.cell.now) c.requires.held c.settle-2.ensures in
    let made = c.in_ok-bring_up.ensures.steps enough are in
    omega (arith, less, made)

pub returns-in_err-bring_up-clause-steps : goal.returns-in_err-bring_up-clause-steps
returns-in_err-bring_up-clause-steps g c enough are =
    let least = one-least enough c.args.dirty.now (named c.args.cell.now) c.requires.held in
    let made = c.in_err-bring_up.ensures.steps enough are in
    omega (arith, least, made)
