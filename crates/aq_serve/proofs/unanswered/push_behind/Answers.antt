use Rattle.std.proofs.Common.{ap, ◌∙◌, drop}
use Rattle.aq_serve.proofs.Wires.{drop_front}
use Rattle.aq_serve.proofs.unanswered.push_behind.Goals as goal

pub returns-clause-rest : goal.returns-clause-rest
returns-clause-rest c =
    ap (drop c.args.start) c.in_ok-extend_from_slice.ensures.items ∙ drop_front c.args.start c.args.bytes.now.items c.args.piece.now c.requires
