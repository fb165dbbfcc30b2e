use Rattle.std.proofs.Common.{ap, ◌∙◌}
use Rattle.aq_rules.specs.Office.Office.{Office}
use Rattle.aq_rules.specs.Shown.Export.{shown_of}
use Rattle.aq_book.proofs.LoadlessAnswers.{shown_are}
use Rattle.aq_book.proofs.book.Book.observations.Goals as goal

pub returns-clause-rows : goal.returns-clause-rows
returns-clause-rows c =
    c.in_ok-rows.ensures ∙ shown_are c.self.inside.registry c.self.inside.shelf c.self.inside.loads c.args.site c.args.pollutant c.args.year ∙ ap (λ (office : Office). shown_of office c.args.site c.args.pollutant c.args.year) c.self.view_is
