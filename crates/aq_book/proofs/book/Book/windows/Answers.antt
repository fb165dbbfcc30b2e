use Rattle.std.proofs.Common.{ap, ◌∙◌}
use Rattle.aq_rules.specs.Office.Office.{Office}
use Rattle.aq_rules.specs.Ozone.OzoneDay.{windows}
use Rattle.aq_series.specs.OfficeView.{office_of}
use Rattle.aq_book.proofs.KeptCells.{hours-kept}
use Rattle.aq_book.proofs.LoadlessAnswers.{windows_are}
use Rattle.aq_book.proofs.book.Book.windows.Goals as goal

pub returns-clause-windows : goal.returns-clause-windows
returns-clause-windows g c =
    let office = office_of c.self.inside.registry c.self.inside.shelf in
    c.windows.ensures
    ∙ c.kept_numbers_are_those_of_the_office.ensures.windows office c.self.inside.cells.ozone c.args.site c.args.day
    (λ hour low high within. hours-kept office c.self.inside.cells.ozone c.args.site c.self.invariant.ozone_kept hour within)
    ∙ windows_are c.self.inside.registry c.self.inside.shelf c.self.inside.loads c.args.site c.args.day ∙ ap (λ (office : Office). windows office c.args.site c.args.day) c.self.view_is
