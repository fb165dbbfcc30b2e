use Rattle.aq_series.specs.OfficeView.{office_of}
use Rattle.aq_ozone_cells.proofs.SettledCells.{hour-up}
use Rattle.aq_ozone_cells.proofs.settling.bring_up_hour.Goals as goal

pub returns-clause-up : goal.returns-clause-up
returns-clause-up g c =
    hour-up (office_of c.args.registry.now c.args.shelf.now) c.args.cells.now c.change_hour.new.self c.args.site c.args.hour c.site_hour-new.result c.site_hour-new.ensures.value
    c.in_ok-change_hour.ensures.hours c.in_ok-change_hour.ensures.averages c.in_ok-change_hour.ensures.days
