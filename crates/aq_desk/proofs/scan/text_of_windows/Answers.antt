use Rattle.std.proofs.Common.{◌≡◌, List, ℕ}
use Rattle.std.specs.Prelude.{IfErr, IfOk}
use Rattle.aq_base.specs.declared.question.Question.TheVariants.{Windows}
use Rattle.aq_book.specs.Staged.{office_with}
use Rattle.aq_desk.proofs.Asking.{of_answer}
use Rattle.aq_desk.specs.Ask.{IsUnanswered}
use Rattle.aq_desk.specs.Command.{Printout, printed}
use Rattle.aq_desk.proofs.scan.text_of_windows.Goals as goal

pub returns-clause-text : goal.returns-clause-text
returns-clause-text c =
    of_answer (λ (shown : Printout). IfOk c.shown_text.result (λ (text : List ℕ). shown ≡ printed text)) (Windows c.args.site c.args.day) (office_with c.args.staged c.args.book) c.in_ok-answer.answer c.in_ok-answer.ensures c.shown_text.ensures.text

pub returns-clause-refused : goal.returns-clause-refused
returns-clause-refused c =
    of_answer (λ (shown : Printout). IfErr c.shown_text.result (IsUnanswered shown)) (Windows c.args.site c.args.day) (office_with c.args.staged c.args.book) c.in_ok-answer.answer c.in_ok-answer.ensures c.shown_text.ensures.refused
