use Rattle.std.proofs.Common.{◌≡◌, ℕ, List, subst}
use Rattle.std.specs.Prelude.{IfOk}
use Rattle.aq_staging.specs.Extracts.Answers.{answer_in}
use Rattle.aq_rules.specs.Extracts.Changes.{changes_answer}
use Rattle.aq_desk.proofs.Drafting.{over_book}
use Rattle.aq_desk.proofs.draft.uncounted.Goals as goal

pub returns : goal.returns
returns g c =
    let P = λ (body : List ℕ). IfOk c.changes.result (λ found. answer_in found ≡ changes_answer (record { first = c.args.first; last = c.args.last }) c.args.book.now body) in
    subst P c.text.ensures.text (over_book _ c.args.book.now c.text.result.now _ _ c.changes.result c.shelf.ensures c.registry.ensures c.changes.ensures)
