use Rattle.std.proofs.Common.{◌≡◌, ◌-◌, ℕ, ap, sym, subst, ◌∙◌, Ok, arith}
use Rattle.std.specs.Option.{is_some}
use Rattle.aq_serve.specs.Serving.{Serves, World}
use Rattle.aq_serve.specs.Talking.{ServesNext, Visited}
use Rattle.aq_serve.proofs.Visiting.{nothing_served, one_more}
use Rattle.aq_serve.proofs.serving.serve.Goals as goal

pub loop-left-preserved : goal.loop-left-preserved
loop-left-preserved g c =
    let b : World = record { door = g.D.Door.seen c.loop-left.door; service = g.V.Service.seen c.loop-left.service c.loop-left.keeper } in
    let m : World = record { door = g.D.Door.seen c.serve_next.new.door; service = g.V.Service.seen c.serve_next.new.service c.serve_next.new.keeper } in
    let v : Visited b m = subst (λ there. ServesNext b m (Ok there)) c.in-Ok-true.field-0-test c.in-Ok-true.ensures in
    record {
      listens = ap is_some v.door.listens ∙ c.loop-left.invariant.listens;
      none_open = v.door.is_open ∙ c.loop-left.invariant.none_open;
      rest = λ after ending s. c.loop-left.invariant.rest after ending (one_more c.loop-left.left (c.loop-left.left - 1) b m after ending (omega arith) v s);
    }

pub returns : goal.returns
returns g c =
    let w : World = record { door = g.D.Door.seen c.loop-left.door; service = g.V.Service.seen c.loop-left.service c.loop-left.keeper } in
    let none : c.loop-left.left ≡ 0 = omega (arith, c.loop-left-test.false) in
    c.loop-left.invariant.rest w (Ok tt) (subst (λ (k : ℕ). Serves k w w (Ok tt)) (sym none) (nothing_served w))
