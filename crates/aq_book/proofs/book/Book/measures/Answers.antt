use Rattle.std.proofs.Common.{is_some, ap, subst, ◌∙◌}
use Rattle.aq_rules.specs.Office.Office.{IsOffice, Office}
use Rattle.aq_rules.specs.Office.Questions.{next_poc}
use Rattle.aq_book.proofs.RisingSites.{monitor-there}
use Rattle.aq_book.proofs.book.Book.measures.Goals as goal

pub returns : goal.returns
returns c =
    c.is_some.ensures ∙ ap is_some c.next_poc.ensures.value
    ∙ ap (λ (office : Office). is_some (next_poc office.records c.args.site c.args.pollutant 0)) c.self.view_is
    ∙ monitor-there c.args.self.now c.args.site c.args.pollutant (subst IsOffice c.self.view_is c.self.invariant.office)
