use Rattle.std.proofs.Common.{arith}
use Rattle.aq_dirty.specs.Marked.{named}
use Rattle.aq_particle_cells.proofs.Pm10Lemmas.Pm10Settled as pm10_cells
use Rattle.aq_particle_cells.proofs.Pm25Lemmas.Pm25Settled as pm25_cells
use Rattle.aq_rules.specs.Kept.Cells.{CellName as Cell}
use Rattle.aq_series.specs.OfficeView.{office_of}
use Rattle.aq_cells.proofs.NextParticles.{below-next, pm10-next, pm25-next}
use Rattle.aq_cells.proofs.ParticleSteps.{enough-stay, one-least, one-less, pm10-on, pm10-same, pm25-on, pm25-same}
use Rattle.aq_cells.proofs.settling.settle.Goals as goal

pub loop-cell-init : goal.loop-cell-init
loop-cell-init g c =
    let office = office_of c.args.registry.now c.args.shelf.now in
    record {
      pm25 = c.requires.pm25;
      pm10 = c.requires.pm10;
      pm25_stay = pm25-same office c.args.pm25.now;
      pm10_stay = pm10-same office c.args.pm10.now;
      paid = λ enough are. omega arith;
    }

pub bring_up-requires : goal.bring_up-requires
bring_up-requires g c = record {
  below =
      below-next (office_of c.args.registry.now c.args.shelf.now) c.loop-cell.pm10 c.loop-cell.waiting c.loop-cell.invariant.pm10 c.in-Some.cell c.in-Some.ensures.value;
  valid = c.records_are_valid.ensures;
}

pub loop-cell-smaller : goal.loop-cell-smaller
loop-cell-smaller g c =
    let less = one-less c.the_particle_cells_held_are_a_list.ensures (λ (_ : Cell). 1) c.loop-cell.waiting (named c.in-Some.cell) c.in-Some.ensures.held
    c.settle.new.self c.a_cell_less_is_its_steps_less.ensures c.settle.ensures.cells in
    omega (arith, less)

pub loop-cell-preserved : goal.loop-cell-preserved
loop-cell-preserved g c =
    let office = office_of c.args.registry.now c.args.shelf.now in
    let up = c.in_ok-bring_up.ensures in
    record {
      pm25 =
          pm25-next office c.loop-cell.waiting c.settle.new.self (named c.in-Some.cell) c.settle.ensures.cells c.loop-cell.pm25 c.bring_up.new.pm25
          c.loop-cell.invariant.pm25 up.pm25_stay up.pm25;
      pm10 =
          pm10-next office c.loop-cell.waiting c.settle.new.self (named c.in-Some.cell) c.settle.ensures.cells c.loop-cell.pm10 c.bring_up.new.pm10
          c.loop-cell.invariant.pm10 up.pm10_stay up.pm10;
      pm25_stay = pm25-on office c.args.pm25.now c.loop-cell.pm25 c.bring_up.new.pm25 c.loop-cell.invariant.pm25_stay up.pm25_stay;
      pm10_stay = pm10-on office c.args.pm10.now c.loop-cell.pm10 c.bring_up.new.pm10 c.loop-cell.invariant.pm10_stay up.pm10_stay;
      paid = λ enough are.
          let so_far = c.loop-cell.invariant.paid enough are in
          let now = up.steps enough (enough-stay office c.args.pm25.now c.args.pm10.now enough are c.loop-cell.pm25 c.loop-cell.pm10 c.loop-cell.invariant.pm25_stay c.loop-cell.invariant.pm10_stay) in
          let less = one-less c.the_particle_cells_held_are_a_list.ensures enough c.loop-cell.waiting (named c.in-Some.cell) c.in-Some.ensures.held
          c.settle.new.self c.a_cell_less_is_its_steps_less.ensures c.settle.ensures.cells in
          omega (arith, so_far, now, less);
    }

pub returns-clause-pm25 : goal.returns-clause-pm25
returns-clause-pm25 g c =
    pm25_cells.all-cells (office_of c.args.registry.now c.args.shelf.now) c.loop-cell.pm25 (λ cell. c.loop-cell.invariant.pm25 cell (c.in_default.ensures.none cell))

pub returns-clause-pm10 : goal.returns-clause-pm10
returns-clause-pm10 g c =
    pm10_cells.all-cells (office_of c.args.registry.now c.args.shelf.now) c.loop-cell.pm10 (λ cell. c.loop-cell.invariant.pm10 cell (c.in_default.ensures.none cell))

pub returns-clause-steps : goal.returns-clause-steps
returns-clause-steps g c enough are = let so_far = c.loop-cell.invariant.paid enough are in omega (arith, so_far)

pub returns-in_err-bring_up-clause-steps : goal.returns-in_err-bring_up-clause-steps
returns-in_err-bring_up-clause-steps g c enough are =
    let office = office_of c.args.registry.now c.args.shelf.now in
    let so_far = c.loop-cell.invariant.paid enough are in
    let now = c.in_err-bring_up.ensures.steps enough
    (enough-stay office c.args.pm25.now c.args.pm10.now enough are c.loop-cell.pm25 c.loop-cell.pm10 c.loop-cell.invariant.pm25_stay c.loop-cell.invariant.pm10_stay) in
    let least = one-least c.the_particle_cells_held_are_a_list.ensures enough c.loop-cell.waiting (named c.in-Some.cell) c.in-Some.ensures.held in
    omega (arith, so_far, now, least)
