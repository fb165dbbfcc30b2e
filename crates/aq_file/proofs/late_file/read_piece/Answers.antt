use Rattle.std.proofs.Common.{IsTrue}
use Rattle.aq_file.proofs.Pieces.{holds_then}
use Rattle.aq_file.proofs.late_file.read_piece.Goals as goal

pub returns-in_default-2-clause-holds : goal.returns-in_default-2-clause-holds
returns-in_default-2-clause-holds g c =
    holds_then c.read_at.result (IsTrue (g.F.Disk.is_clean c.read_at.new.self)) (g.F.Disk.seen c.loop.file) (g.F.Disk.seen c.args.file.now) c.args.at c.loop.piece c.read_at.new.buf c.loop.invariant.read.seen c.read_at.auto.buf c.read_at.ensures.read
