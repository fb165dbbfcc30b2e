use Rattle.std.proofs.Common.{subst, ◌∙◌, Ok}
use Rattle.aq_serve.specs.Serving.{World}
use Rattle.aq_serve.specs.Talking.{Advances, TakesTurn}
use Rattle.aq_serve.proofs.Turns.{advance}
use Rattle.aq_serve.proofs.connection.talk.Goals as goal

pub requests-preserved : goal.requests-preserved
requests-preserved g c =
    let b : World = record { door = g.D.Door.seen c.requests.door; service = g.V.Service.seen c.requests.service c.requests.keeper } in
    let m : World = record { door = g.D.Door.seen c.take_turn.new.door; service = g.V.Service.seen c.take_turn.new.service c.take_turn.new.keeper } in
    let x : Advances c.requests.served b m c.requests.input c.take_turn.new.input =
    subst (λ o. TakesTurn c.requests.served b m c.requests.input c.take_turn.new.input (Ok o)) c.in-Ok-None.field-0-is c.in-Ok-None.ensures.turn in
    record {
      few = x.few;
      is_open = x.door.is_open ∙ c.requests.invariant.is_open;
      piece = c.take_turn.ensures.piece ∙ c.requests.invariant.piece;
      rest = λ after end t. c.requests.invariant.rest after end (advance c.requests.served b m after c.requests.input c.take_turn.new.input end x t);
    }
