use Rattle.std.proofs.Common.{subst}
use Rattle.aq_http.specs.Head.{IsHeadStep}
use Rattle.aq_http.specs.Head as head
use Rattle.aq_http.specs.declared.head.HeadStep.{HeadStep as ReadHead}
use Rattle.aq_serve.specs.Talking.{IsHeadBy}
use Rattle.aq_serve.proofs.Fetching.{no_piece, open_head}
use Rattle.aq_serve.proofs.fetch.fetch_head.Goals as goal

pub returns-in-Err-clause-fetched : goal.returns-in-Err-clause-fetched
returns-in-Err-clause-fetched g c =
    no_piece {A = ReadHead} (λ step. IsHeadBy step (g.D.Door.seen c.read_piece.new.door) c.read_piece.new.input) (g.D.Door.seen c.args.door.now) (g.D.Door.seen c.head.door) (g.D.Door.seen c.read_piece.new.door)
    c.args.input.now c.head.input c.read_piece.new.input c.in-Err.fault c.head.invariant.took c.head.invariant.reads
    (open_head c.head.input (subst (λ t. IsHeadStep t head.More) c.as_slice.ensures c.in-More.ensures))
    c.in-Err.ensures.fetched
