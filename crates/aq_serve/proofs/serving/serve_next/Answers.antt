use Rattle.std.proofs.Common.{subst, sym, ◌∙◌}
use Rattle.aq_outside.specs.Door.{IsAccepted}
use Rattle.aq_serve.proofs.Visiting.{door_failed, nobody_served, round_of, talked_so, visit_lost, visited}
use Rattle.aq_serve.proofs.serving.serve_next.Goals as goal

pub returns-in-Ok-false : goal.returns-in-Ok-false
returns-in-Ok-false g c =
    let a = g.D.Door.seen c.args.door.now in
    let b = g.D.Door.seen c.accept.new.self in
    nobody_served a b (g.V.Service.seen c.args.service.now c.args.keeper.now)
    (subst (λ t. IsAccepted t a b) c.in-Ok-false.field-0-test c.in-Ok-false.ensures.accepted)
    c.accept.ensures.listens c.requires.none_open c.in-Ok-false.ensures.cause c.accept.ensures.transfers

pub returns-in-Err : goal.returns-in-Err
returns-in-Err g c =
    door_failed (g.D.Door.seen c.args.door.now) (g.D.Door.seen c.accept.new.self) (g.V.Service.seen c.args.service.now c.args.keeper.now)
    c.in-Err.ensures.failed c.accept.ensures.listens (c.in-Err.ensures.none ∙ sym c.requires.none_open)
    c.in-Err.ensures.cause c.accept.ensures.transfers

pub returns-in-Ok : goal.returns-in-Ok
returns-in-Ok g c =
    visited _ _ _ _ _ _ c.in-Ok.field-0
    (round_of _ _ _ _ _ c.in-Ok-true.field-0-test c.in-Ok-true.ensures.accepted c.accept.ensures.listens c.in-Ok-true.ensures.cause c.accept.ensures.transfers
    c.converse-talked.ensures.door c.finish.ensures.ended c.finish.ensures.open c.finish.ensures.listens c.finish.ensures.accepts c.finish.ensures.transfers
    c.requires.none_open)
    (talked_so _ _ _ _ c.in-Ok.is c.converse-talked.ensures)

pub returns-in-Err-talked : goal.returns-in-Err-talked
returns-in-Err-talked g c =
    visit_lost _ _ _ _ _ _ _
    (round_of _ _ _ _ _ c.in-Ok-true.field-0-test c.in-Ok-true.ensures.accepted c.accept.ensures.listens c.in-Ok-true.ensures.cause c.accept.ensures.transfers
    c.converse-talked.ensures.door c.finish.ensures.ended c.finish.ensures.open c.finish.ensures.listens c.finish.ensures.accepts c.finish.ensures.transfers
    c.requires.none_open)
    (talked_so _ _ _ _ c.in-Err-talked.is c.converse-talked.ensures)
