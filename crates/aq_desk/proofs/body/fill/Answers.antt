use Rattle.std.proofs.Common.{arith}
use Rattle.std.proofs.lemmas.List.{length-take}
use Rattle.aq_desk.proofs.Reading.{all-read, one-more-read, piece-stopped}
use Rattle.aq_desk.proofs.body.fill.Goals as goal

pub returns-in_err-n-clause-cut : goal.returns-in_err-n-clause-cut
returns-in_err-n-clause-cut g c =
    piece-stopped _ _ c.in_err-n.field-0.0 c.from_residual.result c.loop-body.body.items _ _ _ _ c.from_residual.ensures.1 c.in_err-n.ensures.fault
    (omega (arith, length-take c.min-room.result c.loop-body.buffer)) c.loop-body.invariant.told c.read_piece.ensures.read

pub returns-then-n-eq0-clause-read : goal.returns-then-n-eq0-clause-read
returns-then-n-eq0-clause-read g c =
    all-read c.loop-body.body.items _ _ _ _ (omega (arith, length-take c.min-room.result c.loop-body.buffer)) c.loop-body.invariant.told (c.in_ok-n.ensures.count.end (omega arith)) c.read_piece.ensures.read

pub returns-clause-cut : goal.returns-clause-cut
returns-clause-cut g c = one-more-read c.loop-body.body.items _ _ (omega arith) c.loop-body.invariant.told
