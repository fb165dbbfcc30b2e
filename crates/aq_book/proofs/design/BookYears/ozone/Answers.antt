use Rattle.std.proofs.Common.{◌∙◌, ◌+◌, ◌≤◌, ap, arith}
use Rattle.aq_base.specs.Calendar.{days_in_year, year_first}
use Rattle.aq_base.specs.declared.day.TheConstants.{LAST_DAY}
use Rattle.aq_rules.specs.Office.Office.{Office}
use Rattle.aq_rules.specs.Ozone.OzoneYear.{ozone_year}
use Rattle.aq_series.specs.OfficeView.{office_of}
use Rattle.aq_book.proofs.KeptCells.{days-held}
use Rattle.aq_book.proofs.LoadlessAnswers.{ozone_year_is}
use Rattle.aq_book.proofs.design.BookYears.ozone.Goals as goal

pub year-requires-clause-held : goal.year-requires-clause-held
year-requires-clause-held g c =
    let office = office_of c.self.inside.registry c.self.inside.shelf in
    let in_profile : year_first c.args.year + days_in_year c.args.year ≤ LAST_DAY + 1 = omega (arith, c.year_span.ensures.first, c.year_span.ensures.days, c.year_span.ensures.in_profile) in
    c.kept_numbers_are_those_of_the_office.ensures.held office c.self.inside.cells.ozone c.args.site c.args.year
    (days-held office c.self.inside.cells.ozone c.args.site c.args.year c.self.invariant.ozone_kept in_profile)

pub returns-clause-year : goal.returns-clause-year
returns-clause-year g c =
    let office = office_of c.self.inside.registry c.self.inside.shelf in
    let in_profile : year_first c.args.year + days_in_year c.args.year ≤ LAST_DAY + 1 = omega (arith, c.year_span.ensures.first, c.year_span.ensures.days, c.year_span.ensures.in_profile) in
    c.year.ensures
    ∙ c.kept_numbers_are_those_of_the_office.ensures.year office c.self.inside.cells.ozone c.args.site c.args.year
    (days-held office c.self.inside.cells.ozone c.args.site c.args.year c.self.invariant.ozone_kept in_profile)
    ∙ ozone_year_is c.self.inside.registry c.self.inside.shelf c.self.inside.loads c.args.site c.args.year ∙ ap (λ (office : Office). ozone_year office c.args.site c.args.year) c.self.view_is
