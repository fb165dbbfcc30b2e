use Rattle.std.proofs.Common.{◌≡◌, ◌-◌, ◌<◌, true, length, Result}
use Rattle.aq_base.specs.declared.refusal.Memory.{Memory}
use Rattle.aq_serve.specs.Serving.{World}
use Rattle.aq_serve.specs.Talking.{Talks}
use Rattle.aq_serve.specs.declared.ending.End.{End}
use Rattle.aq_serve.specs.declared.limits.TheConstants.{MOST_REQUESTS}
use Rattle.aq_serve.proofs.connection.talk.Given as goal

-- whatever ends what is left of the connection ends all of it
abbrev pub invariant-requests : goal.invariant-requests
invariant-requests g l = record {
  few : l.served < MOST_REQUESTS;
  is_open : (g.D.Door.seen l.door).is_open ≡ true;
  piece : length l.piece ≡ length l.fn.piece;
  rest : (after : World) (end : Result End Memory)
      → Talks l.served (record { door = g.D.Door.seen l.door; service = g.V.Service.seen l.service l.keeper }) after l.input end
      → Talks 0 (record { door = g.D.Door.seen l.fn.door; service = g.V.Service.seen l.fn.service l.fn.keeper }) after l.fn.input end;
}

abbrev pub decreases-requests : goal.decreases-requests
decreases-requests g l = MOST_REQUESTS - l.served
