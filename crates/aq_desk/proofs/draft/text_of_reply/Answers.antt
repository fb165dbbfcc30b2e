use Rattle.aq_desk.proofs.Asking.{memory_unanswered}
use Rattle.aq_desk.proofs.draft.text_of_reply.Goals as goal

pub returns-in_err-sheet-clause-refused : goal.returns-in_err-sheet-clause-refused
returns-in_err-sheet-clause-refused c = memory_unanswered _ c.from_residual-in_err-sheet.result c.from_residual-in_err-sheet.ensures.1

pub returns-in_err-text_of-clause-refused : goal.returns-in_err-text_of-clause-refused
returns-in_err-text_of-clause-refused c = memory_unanswered _ c.from_residual-in_err-text_of.result c.from_residual-in_err-text_of.ensures.1
