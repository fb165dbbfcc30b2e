use Rattle.std.proofs.Common.{subst, sym, Ok}
use Rattle.aq_serve.specs.Talking.{Replies, RepliesNot, SentBy, TakesTurn}
use Rattle.aq_serve.proofs.Answering.{lost_turn, sent_turn}
use Rattle.aq_serve.proofs.turn.serve_request.Goals as goal

pub returns-in-Ok : goal.returns-in-Ok
returns-in-Ok g c =
    let d = g.D.Door.seen c.args.door.now in
    let e = g.D.Door.seen c.send.new.door in
    let s = g.V.Service.seen c.args.service.now c.args.keeper.now in
    let t = g.V.Service.seen c.answer.new.service c.answer.new.keeper in
    subst (λ now. TakesTurn c.args.served (record { door = d; service = s }) (record { door = e; service = t }) c.args.input.now now (Ok c.send.result)) (sym c.skip.ensures)
    (sent_turn c.args.served c.args.input.now c.in-Ok.reply.bytes.items c.in-Ok.reply.used c.in-Ok.reply.closes d e s t c.send.result
    (subst (λ i. Replies c.args.served i c.in-Ok.reply.bytes.items c.in-Ok.reply.used c.in-Ok.reply.closes s t) c.as_slice.ensures c.in-Ok.ensures.answered)
    (subst (λ b. SentBy c.send.result c.in-Ok.reply.closes b d e) c.deref.ensures.value c.send.ensures))

pub returns-in-Err : goal.returns-in-Err
returns-in-Err g c =
    let s = g.V.Service.seen c.args.service.now c.args.keeper.now in
    let t = g.V.Service.seen c.answer.new.service c.answer.new.keeper in
    lost_turn c.args.served c.args.input.now c.args.input.now (g.D.Door.seen c.args.door.now) s t _
    (subst (λ i. RepliesNot c.args.served i s t) c.as_slice.ensures c.in-Err.ensures.lost)
