use Rattle.std.proofs.Common.{arith}
use Rattle.aq_series.specs.OfficeView.{office_of}
use Rattle.aq_ozone_cells.proofs.CellSteps.{enough-stay, stay-on, stay-same}
use Rattle.aq_ozone_cells.proofs.SettledCells.{all-cells}
use Rattle.aq_ozone_cells.proofs.WeekCells.{weeks-none}
use Rattle.aq_ozone_cells.proofs.settling.settle.Goals as goal

pub loop-cell-init : goal.loop-cell-init
loop-cell-init g c = record {
  others = c.requires;
  weeks = weeks-none (office_of c.args.registry.now c.args.shelf.now) c.args.cells.now c.new-weeks.result.weeks.items c.new-weeks.ensures;
  stay = stay-same (office_of c.args.registry.now c.args.shelf.now) c.args.cells.now;
  paid = λ enough are. omega arith;
}

pub loop-cell-preserved : goal.loop-cell-preserved
loop-cell-preserved g c = record {
  others = c.in_ok-settle_next.ensures.others;
  weeks = c.in_ok-settle_next.ensures.weeks;
  stay = stay-on (office_of c.args.registry.now c.args.shelf.now) c.args.cells.now c.loop-cell.cells c.settle_next.new.cells c.loop-cell.invariant.stay c.in_ok-settle_next.ensures.stay;
  paid = λ enough are.
      let so_far = c.loop-cell.invariant.paid enough are in
      let now = c.in_ok-settle_next.ensures.paid enough (enough-stay (office_of c.args.registry.now c.args.shelf.now) c.args.cells.now c.loop-cell.cells enough c.loop-cell.invariant.stay are) in
      omega (arith, so_far, now);
}

pub loop-cell-smaller : goal.loop-cell-smaller
loop-cell-smaller g c = c.in_ok-settle_next.ensures.fewer

pub returns-clause-kept : goal.returns-clause-kept
returns-clause-kept g c =
    all-cells (office_of c.args.registry.now c.args.shelf.now) c.loop-cell.cells (λ cell. c.loop-cell.invariant.others cell (c.in_default.ensures.none cell))

pub returns-clause-steps : goal.returns-clause-steps
returns-clause-steps g c enough are = let so_far = c.loop-cell.invariant.paid enough are in omega (arith, so_far)

pub returns-in_err-settle_next-clause-steps : goal.returns-in_err-settle_next-clause-steps
returns-in_err-settle_next-clause-steps g c enough are =
    let so_far = c.loop-cell.invariant.paid enough are in
    let now = c.in_err-settle_next.ensures.steps enough (enough-stay (office_of c.args.registry.now c.args.shelf.now) c.args.cells.now c.loop-cell.cells enough c.loop-cell.invariant.stay are) in
    omega (arith, so_far, now)
