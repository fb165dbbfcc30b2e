use Rattle.std.proofs.Common.{subst, true}
use Rattle.aq_serve.specs.Talking.{SentBy}
use Rattle.aq_serve.proofs.Answering.{memory_turn, refusal_replies, refused_turn}
use Rattle.aq_serve.proofs.turn.refuse.Goals as goal

pub returns-in-Ok : goal.returns-in-Ok
returns-in-Ok g c served input now service stays =
    let d = g.D.Door.seen c.args.door.now in
    let e = g.D.Door.seen c.send.new.door in
    refused_turn served input now c.in-Ok.reply.items d e service c.send.result
    (refusal_replies served input c.in-Ok.reply.items c.args.status service stays c.in-Ok.ensures)
    (subst (λ b. SentBy c.send.result true b d e) c.deref.ensures.value c.send.ensures)

pub returns-in-Err : goal.returns-in-Err
returns-in-Err g c served input now service stays = memory_turn served input now (g.D.Door.seen c.args.door.now) service _
