use Rattle.std.proofs.Common.{◌∙◌, ap, sym, Option}
use Rattle.aq_base.specs.declared.observation.Observation.{Observation}
use Rattle.aq_shelf.specs.Standing.{content_at}
use Rattle.aq_staging.proofs.ChangeLemmas.{content-without_rows, unless, unless_none}
use Rattle.aq_staging.proofs.changes.Changes.kept.Goals as goal

pub returns-in_err-before-clause-content : goal.returns-in_err-before-clause-content
returns-in_err-before-clause-content c =
    let key = c.args.key.now in
    let gone = content_at key c.args.self.now.dropped in
    c.from_residual.ensures
    ∙ sym (content-without_rows key c.args.self.now.dropped c.args.shelf.now ∙ ap (unless gone) (sym c.content_at.ensures.content ∙ c.in_err-before.was) ∙ unless_none gone)

pub returns-in-Some-clause-content : goal.returns-in-Some-clause-content
returns-in-Some-clause-content c =
    let key = c.args.key.now in
    let found = content_at key c.args.shelf.now in
    sym (content-without_rows key c.args.self.now.dropped c.args.shelf.now ∙ ap (λ (o : Option Observation). unless o found) (sym c.content_at-2.ensures.content ∙ c.in-Some.is))

pub returns-in-None-clause-content : goal.returns-in-None-clause-content
returns-in-None-clause-content c =
    let key = c.args.key.now in
    let found = content_at key c.args.shelf.now in
    sym (content-without_rows key c.args.self.now.dropped c.args.shelf.now ∙ ap (λ (o : Option Observation). unless o found) (sym c.content_at-2.ensures.content ∙ c.in-None.is) ∙ sym c.content_at.ensures.content ∙ c.in_ok-before.was)
