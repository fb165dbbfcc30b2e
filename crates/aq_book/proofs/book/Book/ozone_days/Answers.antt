use Rattle.std.proofs.Common.{ap, ◌∙◌}
use Rattle.aq_rules.specs.Office.Office.{Office}
use Rattle.aq_rules.specs.Ozone.OzoneYear.{ozone_days}
use Rattle.aq_book.proofs.LoadlessAnswers.{ozone_days_are}
use Rattle.aq_book.proofs.book.Book.ozone_days.Goals as goal

pub returns-clause-days : goal.returns-clause-days
returns-clause-days g c =
    c.in_ok-days.ensures.days ∙ ozone_days_are c.self.inside.registry c.self.inside.shelf c.self.inside.loads c.args.site c.args.year ∙ ap (λ (office : Office). ozone_days office c.args.site c.args.year) c.self.view_is
