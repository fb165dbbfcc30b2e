use Rattle.aq_series.specs.OfficeView.{office_of}
use Rattle.aq_tests.proofs.pm25_cells.counts.Goals as goal

pub year-year-requires-clause-counted : goal.year-year-requires-clause-counted
year-year-requires-clause-counted g c =
    c.kept_numbers_are_those_of_the_office.ensures.counted (office_of c.args.registry.now c.args.shelf.now) c.in_ok-cells.cells c.args.site 2024 c.in_ok-cells.ensures
