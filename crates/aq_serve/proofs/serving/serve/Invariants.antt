use Rattle.std.proofs.Common.{◌≡◌, true, false, Result}
use Rattle.std.specs.Option.{is_some}
use Rattle.aq_serve.specs.Serving.{Serves, World}
use Rattle.aq_serve.specs.declared.ending.ServeFault.{ServeFault}
use Rattle.aq_serve.proofs.serving.serve.Given as goal

-- whatever ends what is left of the serving ends all of it
abbrev pub invariant-loop-left : goal.invariant-loop-left
invariant-loop-left g l = record {
  listens : is_some (g.D.Door.seen l.door).listens ≡ true;
  none_open : (g.D.Door.seen l.door).is_open ≡ false;
  rest : (after : World) (ending : Result Unit ServeFault)
      → Serves l.left (record { door = g.D.Door.seen l.door; service = g.V.Service.seen l.service l.keeper }) after ending
      → Serves l.fn.connections (record { door = g.D.Door.seen l.fn.door; service = g.V.Service.seen l.fn.service l.fn.keeper }) after ending;
}

abbrev pub decreases-loop-left : goal.decreases-loop-left
decreases-loop-left g l = l.left
