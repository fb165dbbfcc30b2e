use Rattle.std.proofs.Common.{◌+◌, ◌≤◌, subst, sym}
use Rattle.aq_dirty.specs.Marked.{named}
use Rattle.aq_dirty.specs.declared.cell_name.CellName.{CellName}
use Rattle.aq_series.specs.OfficeView.{office_of}
use Rattle.aq_particle_cells.specs.Pm10.Bound.{own_steps}
use Rattle.aq_particle_cells.specs.Pm10.Pm10Levels.{IsCellOf}
use Rattle.aq_particle_cells.proofs.Pm10Lemmas.Pm10Settled.{below-stratum, cells-stay-still, no-particles}
use Rattle.aq_particle_cells.proofs.Pm10Lemmas.Pm10Steps.{stratum-paid}
use Rattle.aq_particle_cells.proofs.pm10.settling.bring_up.Goals as goal

pub returns-in_ok-bring_up_quarter-in-Quarter-clause-stay : goal.returns-in_ok-bring_up_quarter-in-Quarter-clause-stay
returns-in_ok-bring_up_quarter-in-Quarter-clause-stay g c = c.in_ok-bring_up_quarter-in-Quarter.ensures.stay c.args.shelf.now

pub returns-in_ok-bring_up_quarter-in-Quarter-clause-cell : goal.returns-in_ok-bring_up_quarter-in-Quarter-clause-cell
returns-in_ok-bring_up_quarter-in-Quarter-clause-cell g c =
    subst (λ (cell : CellName). IsCellOf (office_of c.args.registry.now c.args.shelf.now) c.bring_up_quarter.new.cells (named cell)) (sym c.in-Quarter.is)
    (c.in_ok-bring_up_quarter-in-Quarter.ensures.cell c.args.shelf.now)

pub returns-in_default-clause-stay : goal.returns-in_default-clause-stay
returns-in_default-clause-stay g c = cells-stay-still (office_of c.args.registry.now c.args.shelf.now) c.args.cells.now

pub returns-in_ok-bring_up_stratum-in-Stratum-clause-stay : goal.returns-in_ok-bring_up_stratum-in-Stratum-clause-stay
returns-in_ok-bring_up_stratum-in-Stratum-clause-stay g c =
    c.in_ok-bring_up_stratum-in-Stratum.ensures.stay c.args.shelf.now
    (below-stratum (office_of c.args.registry.now c.args.shelf.now) c.args.cells.now c.args.cell.now c.requires c.in-Stratum.site c.in-Stratum.first c.in-Stratum.is)

pub returns-in_ok-bring_up_stratum-in-Stratum-clause-cell : goal.returns-in_ok-bring_up_stratum-in-Stratum-clause-cell
returns-in_ok-bring_up_stratum-in-Stratum-clause-cell g c =
    subst (λ (cell : CellName). IsCellOf (office_of c.args.registry.now c.args.shelf.now) c.bring_up_stratum.new.cells (named cell)) (sym c.in-Stratum.is)
    (c.in_ok-bring_up_stratum-in-Stratum.ensures.cell c.args.shelf.now
    (below-stratum (office_of c.args.registry.now c.args.shelf.now) c.args.cells.now c.args.cell.now c.requires c.in-Stratum.site c.in-Stratum.first c.in-Stratum.is))

pub returns-in_default-clause-cell : goal.returns-in_default-clause-cell
returns-in_default-clause-cell g c = no-particles (office_of c.args.registry.now c.args.shelf.now) c.args.cells.now c.args.cell.now c.in_default.not-PmDay c.in_default.not-Stratum c.in_default.not-Quarter

pub returns-in_ok-bring_up_quarter-in-Quarter-clause-steps : goal.returns-in_ok-bring_up_quarter-in-Quarter-clause-steps
returns-in_ok-bring_up_quarter-in-Quarter-clause-steps g c enough are =
    subst (λ (cell : CellName). c.bring_up_quarter.new.steps ≤ c.args.steps.now + own_steps enough (named cell)) (sym c.in-Quarter.is)
    (c.in_ok-bring_up_quarter-in-Quarter.ensures.steps c.args.shelf.now enough are)

pub returns-in_err-bring_up_quarter-in-Quarter-clause-steps : goal.returns-in_err-bring_up_quarter-in-Quarter-clause-steps
returns-in_err-bring_up_quarter-in-Quarter-clause-steps g c enough are =
    subst (λ (cell : CellName). c.bring_up_quarter.new.steps ≤ c.args.steps.now + own_steps enough (named cell)) (sym c.in-Quarter.is)
    (c.in_err-bring_up_quarter-in-Quarter.ensures.steps c.args.shelf.now enough are)

pub returns-in_ok-bring_up_stratum-in-Stratum-clause-steps : goal.returns-in_ok-bring_up_stratum-in-Stratum-clause-steps
returns-in_ok-bring_up_stratum-in-Stratum-clause-steps g c enough are =
    subst (λ (cell : CellName). c.bring_up_stratum.new.steps ≤ c.args.steps.now + own_steps enough (named cell)) (sym c.in-Stratum.is)
    (stratum-paid (office_of c.args.registry.now c.args.shelf.now) c.args.cells.now enough are c.in-Stratum.site c.args.steps.now c.bring_up_stratum.new.steps c.in-Stratum.first
    c.in_ok-bring_up_stratum-in-Stratum.ensures.steps)

pub returns-in_err-bring_up_stratum-in-Stratum-clause-steps : goal.returns-in_err-bring_up_stratum-in-Stratum-clause-steps
returns-in_err-bring_up_stratum-in-Stratum-clause-steps g c enough are =
    subst (λ (cell : CellName). c.bring_up_stratum.new.steps ≤ c.args.steps.now + own_steps enough (named cell)) (sym c.in-Stratum.is)
    (stratum-paid (office_of c.args.registry.now c.args.shelf.now) c.args.cells.now enough are c.in-Stratum.site c.args.steps.now c.bring_up_stratum.new.steps c.in-Stratum.first
    c.in_err-bring_up_stratum-in-Stratum.ensures.steps)
