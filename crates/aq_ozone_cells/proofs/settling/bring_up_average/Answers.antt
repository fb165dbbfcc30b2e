use Rattle.aq_series.specs.OfficeView.{office_of}
use Rattle.aq_ozone_cells.proofs.SettledCells.{average-up}
use Rattle.aq_ozone_cells.proofs.settling.bring_up_average.Goals as goal

pub returns-clause-up : goal.returns-clause-up
returns-clause-up g c =
    average-up (office_of c.args.registry.now c.args.shelf.now) c.args.cells.now c.settle_window.new.self c.args.site c.args.start c.requires
    c.in_ok-settle_window.ensures.averages c.in_ok-settle_window.ensures.hours c.in_ok-settle_window.ensures.days
