use Rattle.std.proofs.Common.{◌∙◌, ap, sym, subst}
use Rattle.std.specs.Prelude.{IsSome}
use Rattle.std.proofs.lemmas.Result.{err_from_is_err_and}
use Rattle.aq_shelf.specs.Standing.{content_at, IsInsertFault}
use Rattle.aq_staging.specs.Overlay.{Overlaid, with_content}
use Rattle.aq_staging.proofs.OverlayLemmas.{IsOverlay-insert, found-kept, kept-stands, none_there, overlaid-put, refused_by}
use Rattle.aq_staging.proofs.overlay.Overlay.insert.Goals as goal

pub returns-then-is_some-clause-refused : goal.returns-then-is_some-clause-refused
returns-then-is_some-clause-refused c =
    let some = rw c.kept.ensures.content at (sym c.is_some.ensures ∙ c.if-is_some.true) in
    subst (λ (o : Overlaid). IsSome (content_at c.args.key o.standing)) c.self.view_is (kept-stands c.args.key c.self.inside.shelf.now c.self.inside.changes c.self.inside.count c.self.invariant some)

pub returns-in_err-insert-clause-refused : goal.returns-in_err-insert-clause-refused
returns-in_err-insert-clause-refused c =
    let key = c.args.key in
    let none = sym c.kept.ensures.content ∙ none_there c.kept.result (sym c.is_some.ensures ∙ c.if-is_some.false) in
    let why = refused_by key c.self.inside.shelf.now c.self.inside.changes c.self.inside.count c.self.invariant c.in_err-insert.field-0.0 none c.if-self-eq-MOST_OBSERVATIONS.false c.in_err-insert.ensures.refused in
    let p = err_from_is_err_and c.from_residual.result c.from_residual.ensures.1 in
    rw (p.1, p.2) (subst (λ (o : Overlaid). IsInsertFault c.in_err-insert.field-0.0 key o.standing) c.self.view_is why)

pub invariant_of-self-2 : goal.invariant_of-self-2
invariant_of-self-2 c =
    let key = c.args.key in
    let none = sym c.kept.ensures.content ∙ none_there c.kept.result (sym c.is_some.ensures ∙ c.if-is_some.false) in
    let absent = found-kept key c.self.inside.shelf.now c.self.inside.changes c.self.inside.count c.self.invariant c.in_ok-insert.ensures.absent ∙ none in
    IsOverlay-insert key c.self.inside.shelf.now c.self.inside.changes c.self.inside.count c.self.invariant c.args.content c.insert.new.self c.in_ok-insert.ensures.ok absent c.if-self-eq-MOST_OBSERVATIONS.false

pub returns-clause-ok : goal.returns-clause-ok
returns-clause-ok c =
    overlaid-put c.args.key c.self.inside.shelf.now c.self.inside.changes c.self.inside.count c.self.invariant c.args.content c.insert.new.self c.in_ok-insert.ensures.ok
    ∙ ap (with_content c.args.key c.args.content) c.self.view_is

pub returns-clause-absent : goal.returns-clause-absent
returns-clause-absent c =
    let key = c.args.key in
    let none = sym c.kept.ensures.content ∙ none_there c.kept.result (sym c.is_some.ensures ∙ c.if-is_some.false) in
    sym (ap (λ (o : Overlaid). content_at key o.standing) c.self.view_is)
    ∙ found-kept key c.self.inside.shelf.now c.self.inside.changes c.self.inside.count c.self.invariant c.in_ok-insert.ensures.absent ∙ none
