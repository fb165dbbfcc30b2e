use Rattle.aq_rules.specs.Office.Office.{load_at}
use Rattle.aq_rules.specs.Shown.WellFormed.{IsWellFormed}
use Rattle.aq_office.proofs.Asked.{kept_sheet}
use Rattle.aq_office.proofs.posting.standing_answer.Goals as goal

pub returns-in_ok-load_sheet-in-Some-reply_of-clause-shown : goal.returns-in_ok-load_sheet-in-Some-reply_of-clause-shown
returns-in_ok-load_sheet-in-Some-reply_of-clause-shown c =
    kept_sheet IsWellFormed (load_at c.args.book.now c.args.number) c.in-Some-reply_of.reply.now c.in_ok-load_sheet-in-Some-reply_of.field-0
    (λ load at. c.answers_are_well_formed.ensures.reply c.args.book.now c.args.number load c.requires.valid at) c.in-Some-reply_of.ensures c.in_ok-load_sheet-in-Some-reply_of.ensures
