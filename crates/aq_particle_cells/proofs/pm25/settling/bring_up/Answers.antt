use Rattle.std.proofs.Common.{◌+◌, ◌≤◌, subst, sym}
use Rattle.aq_dirty.specs.Marked.{named}
use Rattle.aq_dirty.specs.declared.cell_name.CellName.{CellName}
use Rattle.aq_series.specs.OfficeView.{office_of}
use Rattle.aq_particle_cells.specs.Pm25.Bound.{own_steps}
use Rattle.aq_particle_cells.specs.Pm25.Pm25Levels.{IsCellOf}
use Rattle.aq_particle_cells.proofs.Pm25Lemmas.Pm25Settled.{cells-stay-still, no-particles}
use Rattle.aq_particle_cells.proofs.pm25.settling.bring_up.Goals as goal

pub returns-in_ok-bring_up_quarter-in-Quarter-clause-stay : goal.returns-in_ok-bring_up_quarter-in-Quarter-clause-stay
returns-in_ok-bring_up_quarter-in-Quarter-clause-stay g c = c.in_ok-bring_up_quarter-in-Quarter.ensures.stay c.args.shelf.now

pub returns-in_ok-bring_up_quarter-in-Quarter-clause-cell : goal.returns-in_ok-bring_up_quarter-in-Quarter-clause-cell
returns-in_ok-bring_up_quarter-in-Quarter-clause-cell g c =
    subst (λ (cell : CellName). IsCellOf (office_of c.args.registry.now c.args.shelf.now) c.bring_up_quarter.new.cells (named cell)) (sym c.in-Quarter.is)
    (c.in_ok-bring_up_quarter-in-Quarter.ensures.cell c.args.shelf.now)

pub returns-in_default-clause-stay : goal.returns-in_default-clause-stay
returns-in_default-clause-stay g c = cells-stay-still (office_of c.args.registry.now c.args.shelf.now) c.args.cells.now

pub returns-in_default-clause-cell : goal.returns-in_default-clause-cell
returns-in_default-clause-cell g c = no-particles (office_of c.args.registry.now c.args.shelf.now) c.args.cells.now c.args.cell.now c.in_default.not-PmDay c.in_default.not-Quarter

pub returns-in_ok-bring_up_quarter-in-Quarter-clause-steps : goal.returns-in_ok-bring_up_quarter-in-Quarter-clause-steps
returns-in_ok-bring_up_quarter-in-Quarter-clause-steps g c enough are =
    subst (λ (cell : CellName). c.bring_up_quarter.new.steps ≤ c.args.steps.now + own_steps enough (named cell)) (sym c.in-Quarter.is)
    (c.in_ok-bring_up_quarter-in-Quarter.ensures.steps c.args.shelf.now enough are)

pub returns-in_err-bring_up_quarter-in-Quarter-clause-steps : goal.returns-in_err-bring_up_quarter-in-Quarter-clause-steps
returns-in_err-bring_up_quarter-in-Quarter-clause-steps g c enough are =
    subst (λ (cell : CellName). c.bring_up_quarter.new.steps ≤ c.args.steps.now + own_steps enough (named cell)) (sym c.in-Quarter.is)
    (c.in_err-bring_up_quarter-in-Quarter.ensures.steps c.args.shelf.now enough are)
