use Rattle.std.proofs.Common.{◌≡◌, List, ℕ}
use Rattle.std.specs.Prelude.{IfErr, IfOk}
use Rattle.aq_desk.proofs.Asking.{of_answer}
use Rattle.aq_desk.specs.Ask.{IsUnanswered}
use Rattle.aq_desk.specs.Command.{Printout, printed}
use Rattle.aq_desk.proofs.ask.text_of_answer.Goals as goal

pub returns-clause-text : goal.returns-clause-text
returns-clause-text c =
    of_answer (λ (shown : Printout). IfOk c.shown_text.result (λ (text : List ℕ). shown ≡ printed text)) c.args.question.now c.args.book.now c.in_ok-answer.answer c.in_ok-answer.ensures.answer c.shown_text.ensures.text

pub returns-clause-refused : goal.returns-clause-refused
returns-clause-refused c =
    of_answer (λ (shown : Printout). IfErr c.shown_text.result (IsUnanswered shown)) c.args.question.now c.args.book.now c.in_ok-answer.answer c.in_ok-answer.ensures.answer c.shown_text.ensures.refused
