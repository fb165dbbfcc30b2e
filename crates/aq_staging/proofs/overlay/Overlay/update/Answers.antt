use Rattle.std.proofs.Common.{◌∙◌, ap, sym}
use Rattle.aq_rules.specs.Office.Office.{observation_rank, with_row}
use Rattle.aq_shelf.specs.Standing.{content_at}
use Rattle.aq_staging.specs.Overlay.{Overlaid, with_content}
use Rattle.aq_staging.proofs.OverlayLemmas.{IsOverlay-update, found-left, found-kept, left-has_room, overlaid-put}
use Rattle.aq_staging.proofs.overlay.Overlay.update.Goals as goal

pub invariant_of-self : goal.invariant_of-self
invariant_of-self c =
    let there = found-left c.args.key c.self.inside.shelf.now c.self.inside.changes c.self.inside.count c.self.invariant c.in-Ok.before c.in-Ok.ensures.before in
    IsOverlay-update c.args.key c.self.inside.shelf.now c.self.inside.changes c.self.inside.count c.self.invariant c.args.content c.update.new.self c.in-Ok.ensures.ok c.in-Ok.before there

pub returns-in-Ok-clause-ok : goal.returns-in-Ok-clause-ok
returns-in-Ok-clause-ok c =
    overlaid-put c.args.key c.self.inside.shelf.now c.self.inside.changes c.self.inside.count c.self.invariant c.args.content c.update.new.self c.in-Ok.ensures.ok
    ∙ ap (with_content c.args.key c.args.content) c.self.view_is

pub returns-in-Ok-clause-before : goal.returns-in-Ok-clause-before
returns-in-Ok-clause-before c =
    sym (ap (λ (o : Overlaid). content_at c.args.key o.standing) c.self.view_is)
    ∙ found-left c.args.key c.self.inside.shelf.now c.self.inside.changes c.self.inside.count c.self.invariant c.in-Ok.before c.in-Ok.ensures.before

pub returns-in_default-kept-clause-refused : goal.returns-in_default-kept-clause-refused
returns-in_default-kept-clause-refused c =
    sym (ap (λ (o : Overlaid). content_at c.args.key o.standing) c.self.view_is)
    ∙ found-kept c.args.key c.self.inside.shelf.now c.self.inside.changes c.self.inside.count c.self.invariant c.in_default.ensures.not_there
    ∙ sym c.kept.ensures.content ∙ c.in_default-kept.is

pub put_new-requires-clause-room : goal.put_new-requires-clause-room
put_new-requires-clause-room c =
    let there = found-kept c.args.key c.self.inside.shelf.now c.self.inside.changes c.self.inside.count c.self.invariant c.in_default.ensures.not_there ∙ sym c.kept.ensures.content ∙ c.in-Some.is in
    left-has_room c.args.key c.self.inside.shelf.now c.self.inside.changes c.self.inside.count c.self.invariant c.args.content (with_row observation_rank (c.args.key, c.args.content) c.update.new.self) (ap (with_row observation_rank (c.args.key, c.args.content)) c.in_default.ensures.unchanged) c.in-Some.before there

pub invariant_of-self-2 : goal.invariant_of-self-2
invariant_of-self-2 c =
    let there = found-kept c.args.key c.self.inside.shelf.now c.self.inside.changes c.self.inside.count c.self.invariant c.in_default.ensures.not_there ∙ sym c.kept.ensures.content ∙ c.in-Some.is in
    IsOverlay-update c.args.key c.self.inside.shelf.now c.self.inside.changes c.self.inside.count c.self.invariant c.args.content c.put_new.new.shelf (c.in_ok-put_new.ensures.ok ∙ ap (with_row observation_rank (c.args.key, c.args.content)) c.in_default.ensures.unchanged) c.in-Some.before there

pub returns-clause-ok : goal.returns-clause-ok
returns-clause-ok c =
    overlaid-put c.args.key c.self.inside.shelf.now c.self.inside.changes c.self.inside.count c.self.invariant c.args.content c.put_new.new.shelf (c.in_ok-put_new.ensures.ok ∙ ap (with_row observation_rank (c.args.key, c.args.content)) c.in_default.ensures.unchanged)
    ∙ ap (with_content c.args.key c.args.content) c.self.view_is

pub returns-clause-before : goal.returns-clause-before
returns-clause-before c =
    sym (ap (λ (o : Overlaid). content_at c.args.key o.standing) c.self.view_is)
    ∙ found-kept c.args.key c.self.inside.shelf.now c.self.inside.changes c.self.inside.count c.self.invariant c.in_default.ensures.not_there
    ∙ sym c.kept.ensures.content ∙ c.in-Some.is
