use Rattle.std.proofs.Common.{◌+◌, ◌<◌, length, ap, ◌∙◌, arith}
use Rattle.aq_http.specs.Head.{head_in}
use Rattle.aq_http.specs.Step.{IsStep, More}
use Rattle.aq_http.specs.declared.head.HeadStep.{HeadStep as ReadHead}
use Rattle.aq_serve.specs.Talking.{IsRequestBy}
use Rattle.aq_serve.proofs.Fetching.{at_end, body_waits, no_piece}
use Rattle.aq_serve.proofs.Wires.{took_join}
use Rattle.aq_serve.proofs.fetch.fetch_body.Goals as goal

pub returns-in-Ok-eq0-clause-fetched : goal.returns-in-Ok-eq0-clause-fetched
returns-in-Ok-eq0-clause-fetched g c =
    let short : length c.body.input < c.args.head.now.head_bytes + c.args.head.now.body_bytes = omega (arith, ap length c.as_slice.ensures) in
    at_end (λ t. IsStep t More) (g.D.Door.seen c.args.door.now) (g.D.Door.seen c.body.door) (g.D.Door.seen c.read_piece.new.door)
    c.args.input.now c.body.input c.read_piece.new.input c.in-Ok-eq0.field-0 c.body.invariant.took c.body.invariant.reads
    (body_waits c.args.input.now c.body.input (head_in c.args.input.now c.args.head.now) c.body.invariant.took.got c.body.invariant.took.is
    c.steps_stay.ensures.head c.requires.stands short)
    (omega (arith, c.in-Ok-eq0.field-0-test)) c.in-Ok-eq0.ensures.fetched

pub returns-in-Err-clause-fetched : goal.returns-in-Err-clause-fetched
returns-in-Err-clause-fetched g c =
    let short : length c.body.input < c.args.head.now.head_bytes + c.args.head.now.body_bytes = omega (arith, ap length c.as_slice.ensures) in
    no_piece {A = ReadHead} (λ step. IsRequestBy step (g.D.Door.seen c.read_piece.new.door) c.read_piece.new.input) (g.D.Door.seen c.args.door.now) (g.D.Door.seen c.body.door) (g.D.Door.seen c.read_piece.new.door)
    c.args.input.now c.body.input c.read_piece.new.input c.in-Err.fault c.body.invariant.took c.body.invariant.reads
    (body_waits c.args.input.now c.body.input (head_in c.args.input.now c.args.head.now) c.body.invariant.took.got c.body.invariant.took.is
    c.steps_stay.ensures.head c.requires.stands short)
    c.in-Err.ensures.fetched

pub body-preserved : goal.body-preserved
body-preserved g c = record {
  took = took_join (g.D.Door.seen c.args.door.now) (g.D.Door.seen c.body.door) (g.D.Door.seen c.read_piece.new.door)
      c.args.input.now c.body.input c.read_piece.new.input c.body.invariant.took c.in-Ok.ensures.fetched.took;
  reads = c.in-Ok.ensures.fetched.reads ∙ c.body.invariant.reads;
  piece = c.read_piece.ensures.piece ∙ c.body.invariant.piece;
}
