use Rattle.std.proofs.Common.{◌∙◌, ap, sym, Option}
use Rattle.aq_base.specs.declared.observation.Observation.{Observation}
use Rattle.aq_shelf.specs.Standing.{content_at}
use Rattle.aq_staging.specs.Changes.{without_rows}
use Rattle.aq_staging.proofs.ChangeLemmas.{content-with_changes, or_else}
use Rattle.aq_staging.proofs.changes.Changes.at.Goals as goal

pub returns-in-Some : goal.returns-in-Some
returns-in-Some c =
    let key = c.args.key.now in
    let below = content_at key (without_rows c.args.self.now.dropped c.args.shelf.now) in
    sym (content-with_changes key c.args.self.now c.args.shelf.now c.content_at.ensures.shelf.rising ∙ ap (λ (o : Option Observation). or_else o below) (sym c.content_at.ensures.content ∙ c.in-Some.is))

pub returns-in-None : goal.returns-in-None
returns-in-None c =
    let key = c.args.key.now in
    let below = content_at key (without_rows c.args.self.now.dropped c.args.shelf.now) in
    c.kept.ensures.content
    ∙ sym (content-with_changes key c.args.self.now c.args.shelf.now c.content_at.ensures.shelf.rising ∙ ap (λ (o : Option Observation). or_else o below) (sym c.content_at.ensures.content ∙ c.in-None.is))
