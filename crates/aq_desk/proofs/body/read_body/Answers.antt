use Rattle.aq_desk.proofs.Reading.{body-stopped, unread-memory}
use Rattle.aq_desk.proofs.body.read_body.Goals as goal

pub returns-in_err-buffer-clause-cut : goal.returns-in_err-buffer-clause-cut
returns-in_err-buffer-clause-cut g c = unread-memory c.from_residual.result _ c.from_residual.ensures.1

pub returns-in_err-fill-clause-cut : goal.returns-in_err-fill-clause-cut
returns-in_err-fill-clause-cut g c =
    body-stopped c.in_err-fill.field-0.0 c.from_residual-in_err-fill.result _ _ c.from_residual-in_err-fill.ensures.1 c.in_err-fill.ensures.cut
