use Rattle.std.proofs.Common.{ap, ◌∙◌}
use Rattle.aq_office.specs.Answers.{lack_of, seen}
use Rattle.aq_rules.specs.Questions.Answer.{texts_of}
use Rattle.aq_simulation.proofs.Steps.{no_lack, no_text, report_texts, text_is}
use Rattle.aq_simulation.proofs.reports.report_text.Goals as goal

pub returns-in-Sheets : goal.returns-in-Sheets
returns-in-Sheets c =
    text_is c.texts_of.result _ _
    (ap texts_of c.as_slice.ensures ∙ report_texts c.args.book.now c.args.standard c.args.year c.in-Sheets.sheets (c.in_ok-sheets.ensures.answer ∙ ap seen c.in-Sheets.is))
    c.texts_of.ensures

pub returns-in-Text : goal.returns-in-Text
returns-in-Text c = absurd (no_text c.args.book.now c.args.standard c.args.year c.in-Text.text.items (c.in_ok-sheets.ensures.answer ∙ ap seen c.in-Text.is))

pub returns-in-Lacks : goal.returns-in-Lacks
returns-in-Lacks c =
    absurd (no_lack c.args.book.now c.args.standard c.args.year (lack_of c.in-Lacks.field-0) (c.in_ok-sheets.ensures.answer ∙ ap seen c.in-Lacks.is))
