use Rattle.aq_desk.proofs.Unread.{stopped_by}
use Rattle.aq_desk.proofs.Outcomes.{cut_behind, taken_behind}
use Rattle.aq_desk.proofs.scan.print_staged.Goals as goal

pub returns-in_err-print_reply-clause-told : goal.returns-in_err-print_reply-clause-told
returns-in_err-print_reply-clause-told g c =
    cut_behind _ _ c.in_err-print_reply.field-0.0 c.from_residual.result _ _ (stopped_by _ _ c.from_residual.ensures.1) c.in_err-print_reply.ensures.cut c.in_err-print_reply.ensures.told

pub returns-clause-told : goal.returns-clause-told
returns-clause-told g c = taken_behind _ _ _ _ _ _ _ c.in_ok-print_reply.ensures.told c.print_windows.ensures.told
