use Rattle.aq_book.specs.Staged.{office_with}
use Rattle.aq_desk.proofs.Asking.{answered_obeys, unanswered_obeys, windows_taken}
use Rattle.aq_desk.proofs.scan.print_windows.Goals as goal

pub returns-in_err-text-clause-told : goal.returns-in_err-text-clause-told
returns-in_err-text-clause-told g c =
    unanswered_obeys _ c.in_err-text.field-0.0 c.from_residual.result _ c.from_residual.ensures.1 c.in_err-text.ensures.refused

pub returns-in_err-text-clause-taken : goal.returns-in_err-text-clause-taken
returns-in_err-text-clause-taken g c =
    windows_taken (office_with c.args.staged c.args.book) c.args.site c.args.day c.in_err-text.field-0.0 c.from_residual.result c.from_residual.ensures.1 c.in_err-text.ensures.refused

pub returns-clause-told : goal.returns-clause-told
returns-clause-told g c =
    answered_obeys _ c.in_ok-text.text c.as_slice.result.now c.print_text.result _ _ c.in_ok-text.ensures.text c.as_slice.ensures c.print_text.ensures.told
