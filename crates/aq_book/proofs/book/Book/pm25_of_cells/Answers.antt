use Rattle.std.proofs.Common.{ap, ◌∙◌}
use Rattle.aq_rules.specs.Kept.Summaries.{pm25_summary}
use Rattle.aq_rules.specs.Office.Office.{Office}
use Rattle.aq_series.specs.OfficeView.{office_of}
use Rattle.aq_book.proofs.LoadlessAnswers.{pm25_summary_is}
use Rattle.aq_book.proofs.book.Book.pm25_of_cells.Goals as goal

pub year-requires-clause-counted : goal.year-requires-clause-counted
year-requires-clause-counted c =
    c.kept_numbers_are_those_of_the_office.ensures.counted (office_of c.self.inside.registry c.self.inside.shelf) c.self.inside.cells.pm25 c.args.site c.args.year
    c.self.invariant.pm25_kept

pub returns : goal.returns
returns c =
    c.year.ensures
    ∙ c.kept_numbers_are_those_of_the_office.ensures.year (office_of c.self.inside.registry c.self.inside.shelf) c.self.inside.cells.pm25 c.args.site c.args.year
    c.self.invariant.pm25_kept
    ∙ pm25_summary_is c.self.inside.registry c.self.inside.shelf c.self.inside.loads c.args.site c.args.year ∙ ap (λ (office : Office). pm25_summary office c.args.site c.args.year) c.self.view_is
