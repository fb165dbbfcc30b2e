use Rattle.aq_series.specs.OfficeView.{office_of}
use Rattle.aq_dirty.specs.Marked.{named}
use Rattle.aq_ozone_cells.proofs.SettledCells.{nothing-to_do}
use Rattle.aq_ozone_cells.proofs.NextCells.{below-day, below-window, below-year, no-ozone}
use Rattle.aq_ozone_cells.proofs.settling.bring_up.Goals as goal

pub bring_up_average-requires : goal.bring_up_average-requires
bring_up_average-requires g c = below-window (office_of c.args.registry.now c.args.shelf.now) c.args.cells.now c.args.cell.now c.requires c.in-Window.site c.in-Window.start c.in-Window.is

pub bring_up_day-requires : goal.bring_up_day-requires
bring_up_day-requires g c = below-day (office_of c.args.registry.now c.args.shelf.now) c.args.cells.now c.args.cell.now c.requires c.in-OzoneDay.site c.in-OzoneDay.day c.in-OzoneDay.is

pub bring_up_year-requires : goal.bring_up_year-requires
bring_up_year-requires g c =
    let below = below-year (office_of c.args.registry.now c.args.shelf.now) c.args.cells.now c.args.cell.now c.requires c.in-OzoneYear.site c.in-OzoneYear.year c.in-OzoneYear.is in
    record { averages = below.0; days = below.1 }

pub returns-in_default-clause-up : goal.returns-in_default-clause-up
returns-in_default-clause-up g c =
    let office = office_of c.args.registry.now c.args.shelf.now in
    nothing-to_do office c.args.cells.now (named c.args.cell.now)
    (no-ozone office c.args.cells.now c.args.cell.now c.in_default.not-Hour c.in_default.not-Window c.in_default.not-OzoneDay c.in_default.not-OzoneYear)
