use Rattle.std.proofs.Common.{ap, ◌∙◌}
use Rattle.aq_rules.specs.Particles.Pm10Estimate.{pm10_year}
use Rattle.aq_rules.specs.Office.Office.{Office}
use Rattle.aq_series.specs.OfficeView.{office_of}
use Rattle.aq_book.proofs.LoadlessAnswers.{pm10_year_is}
use Rattle.aq_book.proofs.book.Book.pm10_of_cells.Goals as goal

pub year-requires-clause-counted : goal.year-requires-clause-counted
year-requires-clause-counted c =
    c.kept_numbers_are_those_of_the_office.ensures.counted (office_of c.self.inside.registry c.self.inside.shelf) c.self.inside.cells.pm10 c.args.site c.args.year
    c.self.invariant.pm10_kept

pub returns : goal.returns
returns c =
    c.year.ensures
    ∙ c.kept_numbers_are_those_of_the_office.ensures.year (office_of c.self.inside.registry c.self.inside.shelf) c.self.inside.cells.pm10 c.args.site c.args.year
    c.self.invariant.pm10_kept
    ∙ pm10_year_is c.self.inside.registry c.self.inside.shelf c.self.inside.loads c.args.site c.args.year ∙ ap (λ (office : Office). pm10_year office c.args.site c.args.year) c.self.view_is
