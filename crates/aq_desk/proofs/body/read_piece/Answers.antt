use Rattle.std.proofs.Common.{rules}
use Rattle.aq_desk.proofs.Reading.{takes-none, takes-piece}
use Rattle.aq_desk.proofs.body.read_piece.Goals as goal

pub returns-in_err-n-clause-read : goal.returns-in_err-n-clause-read
returns-in_err-n-clause-read g c = takes-none _ _ _ c.in_err-n.ensures.failed

pub returns-in_err-extend_from_slice-clause-read : goal.returns-in_err-extend_from_slice-clause-read
returns-in_err-extend_from_slice-clause-read g c = takes-piece _ c.in_ok-n.n c.read.new.buffer _ _ (search rules) c.in_ok-n.ensures.moved

pub returns-clause-read : goal.returns-clause-read
returns-clause-read g c = takes-piece _ c.in_ok-n.n c.read.new.buffer _ _ (search rules) c.in_ok-n.ensures.moved
