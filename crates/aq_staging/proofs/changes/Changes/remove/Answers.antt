use Rattle.std.proofs.Common.{◌∙◌, ap, sym, Option, Some}
use Rattle.aq_base.specs.declared.observation.Observation.{Observation}
use Rattle.aq_shelf.specs.Standing.{content_at}
use Rattle.aq_staging.proofs.ChangeLemmas.{content-with_changes, or_else, or_none, or_value, change-drop, change-drop-left, AreChanges-drop, AreChanges-drop-left, dropped-few, not_dropped}
use Rattle.aq_staging.proofs.changes.Changes.remove.Goals as goal

pub returns-in_default-clause-before : goal.returns-in_default-clause-before
returns-in_default-clause-before c =
    let key = c.args.key.now in
    let left = content_at key c.args.self.now.left in
    c.take_row.ensures.before
    ∙ sym (content-with_changes key c.args.self.now c.args.shelf.now c.requires.left ∙ ap (or_else left) (sym c.kept.ensures.content ∙ c.in_default.is) ∙ or_none left)

pub returns-in_default-clause-ok : goal.returns-in_default-clause-ok
returns-in_default-clause-ok c =
    rw c.take_row.ensures.rest (change-drop-left c.args.key.now c.args.shelf.now c.args.self.now c.requires (sym c.kept.ensures.content ∙ c.in_default.is))

pub returns-in_default-clause-changes : goal.returns-in_default-clause-changes
returns-in_default-clause-changes c =
    rw c.take_row.ensures.rest (AreChanges-drop-left c.args.key.now c.args.shelf.now c.args.self.now c.requires)

pub put_new-requires-clause-absent : goal.put_new-requires-clause-absent
put_new-requires-clause-absent c =
    not_dropped c.args.key.now c.args.shelf.now c.args.self.now c.requires c.in-Some.kept (sym c.kept.ensures.content ∙ c.in-Some.is)

pub put_new-requires-clause-room : goal.put_new-requires-clause-room
put_new-requires-clause-room c =
    dropped-few c.args.key.now c.args.shelf.now c.args.self.now c.requires c.in-Some.kept (sym c.kept.ensures.content ∙ c.in-Some.is) c.kept.ensures.shelf.few

pub returns-clause-before : goal.returns-clause-before
returns-clause-before c =
    let key = c.args.key.now in
    let left = content_at key c.args.self.now.left in
    ap (λ (content : Observation). Some content) c.unwrap_or.ensures
    ∙ or_value c.take_row-2.result c.in-Some.kept
    ∙ ap (λ (o : Option Observation). or_else o (Some c.in-Some.kept)) c.take_row-2.ensures.before
    ∙ sym (content-with_changes key c.args.self.now c.args.shelf.now c.requires.left ∙ ap (or_else left) (sym c.kept.ensures.content ∙ c.in-Some.is))

pub returns-clause-ok : goal.returns-clause-ok
returns-clause-ok c =
    rw (c.take_row-2.ensures.rest, c.in_ok-put_new.ensures.ok) (change-drop c.args.key.now c.args.shelf.now c.args.self.now c.requires c.in-Some.kept)

pub returns-clause-changes : goal.returns-clause-changes
returns-clause-changes c =
    rw (c.take_row-2.ensures.rest, c.in_ok-put_new.ensures.ok) (AreChanges-drop c.args.key.now c.args.shelf.now c.args.self.now c.requires c.in-Some.kept (sym c.kept.ensures.content ∙ c.in-Some.is))
