use Rattle.aq_series.specs.OfficeView.{office_of}
use Rattle.aq_particle_cells.proofs.Pm10Lemmas.Pm10Settled.{stratum-now, stratum-stay}
use Rattle.aq_particle_cells.proofs.pm10.settling.bring_up_stratum.Goals as goal

pub returns-clause-stay : goal.returns-clause-stay
returns-clause-stay g c rows values =
    stratum-stay (office_of c.args.registry.now rows) c.args.cells.now c.settle_stratum.new.self c.args.site c.args.first
    c.in_ok-settle_stratum.ensures.strata c.in_ok-settle_stratum.ensures.cells c.in_ok-settle_stratum.ensures.samples values

pub returns-clause-cell : goal.returns-clause-cell
returns-clause-cell g c rows values =
    stratum-now (office_of c.args.registry.now rows) c.args.cells.now c.settle_stratum.new.self c.args.site c.args.first
    c.in_ok-settle_stratum.ensures.strata c.in_ok-settle_stratum.ensures.cells c.in_ok-settle_stratum.ensures.samples values
