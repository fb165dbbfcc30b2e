use Rattle.std.proofs.Common.{◌&&◌, arith}
use Rattle.aq_rules.specs.Office.Monitors.{is_same_site}
use Rattle.aq_series.specs.OfficeView.{office_of}
use Rattle.aq_ozone_cells.specs.OzoneCells.{is_day_of}
use Rattle.aq_ozone_cells.proofs.SettledCells.{its-year, no-year, of-year, year-already, year-inside, year-up}
use Rattle.aq_ozone_cells.proofs.settling.bring_up_year.Goals as goal

pub returns-clause-up : goal.returns-clause-up
returns-clause-up g c =
    year-up (office_of c.args.registry.now c.args.shelf.now) c.args.cells.now c.settle_year.new.self c.requires.averages c.in_ok-settle_year.ensures.hours c.in_ok-settle_year.ensures.averages
    c.args.site (λ other number. is_same_site c.args.site other && is_day_of c.args.year number) (of-year c.args.site c.args.year) c.in_ok-settle_year.ensures.days
    c.args.year (λ day within its. its-year c.args.site c.args.year day (omega (arith, c.if-year-lt-FIRST_YEAR.false)) within its)

pub returns-then-year-lt-FIRST_YEAR-clause-up : goal.returns-then-year-lt-FIRST_YEAR-clause-up
returns-then-year-lt-FIRST_YEAR-clause-up g c =
    no-year (office_of c.args.registry.now c.args.shelf.now) c.args.cells.now c.args.site c.args.year (λ day within its. omega (arith, (year-inside day within).0, its, c.if-year-lt-FIRST_YEAR.true))

pub returns-then-year-gt-LAST_YEAR-clause-up : goal.returns-then-year-gt-LAST_YEAR-clause-up
returns-then-year-gt-LAST_YEAR-clause-up g c =
    no-year (office_of c.args.registry.now c.args.shelf.now) c.args.cells.now c.args.site c.args.year (λ day within its. omega (arith, (year-inside day within).1, its, c.if-year-gt-LAST_YEAR.true))

pub returns-clause-no_step : goal.returns-clause-no_step
returns-clause-no_step g c of =
    c.in_ok-settle_year.ensures.no_step
    (year-already (office_of c.args.registry.now c.args.shelf.now) c.args.cells.now c.args.site c.args.year (omega (arith, c.if-year-lt-FIRST_YEAR.false)) c.requires.averages c.requires.days of)

pub returns-in_err-settle_year-clause-no_step : goal.returns-in_err-settle_year-clause-no_step
returns-in_err-settle_year-clause-no_step g c of =
    c.in_err-settle_year.ensures.no_step
    (year-already (office_of c.args.registry.now c.args.shelf.now) c.args.cells.now c.args.site c.args.year (omega (arith, c.if-year-lt-FIRST_YEAR.false)) c.requires.averages c.requires.days of)
