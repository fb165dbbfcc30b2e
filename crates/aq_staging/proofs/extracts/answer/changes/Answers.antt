use Rattle.std.proofs.Common.{◌∙◌, ap, sym}
use Rattle.aq_registry.specs.Registry.{office_with}
use Rattle.aq_rules.proofs.ExtractRows.{extract-same}
use Rattle.aq_rules.specs.Extracts.Changes.{DaySpan, answer_for, changes_answer}
use Rattle.aq_series.specs.OfficeView.{office_of}
use Rattle.aq_staging.proofs.ExtractsLemmas.Judged.{if_ok}
use Rattle.aq_staging.proofs.extracts.answer.changes.Goals as goal

pub returns-in-Ok : goal.returns-in-Ok
unfolding changes_answer
returns-in-Ok g c =
    let span : DaySpan = record { first = c.args.first; last = c.args.last } in
    let office = office_of c.args.registry.now c.args.shelf.now in
    if_ok c.answer_for.result
    (λ answer is. is ∙ sym (ap (answer_for span office) (extract-same span (office_with c.args.registry.now) c.args.body.now c.args.shelf.now ∙ c.in-Ok.ensures.ok)))
    c.answer_for.ensures

pub returns-in-Err-Refused : goal.returns-in-Err-Refused
unfolding changes_answer
returns-in-Err-Refused g c =
    let span : DaySpan = record { first = c.args.first; last = c.args.last } in
    let office = office_of c.args.registry.now c.args.shelf.now in
    rw c.in-Err-Refused.field-0-is
    (sym (ap (answer_for span office) (extract-same span (office_with c.args.registry.now) c.args.body.now c.args.shelf.now ∙ (rw c.in-Err-Refused.field-0-is at c.in-Err-Refused.ensures.refused))))
