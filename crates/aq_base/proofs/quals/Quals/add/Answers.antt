use Rattle.std.proofs.Common.{◌≡◌, ◌++◌, ◌∷◌, [], false, take, sym, ap, ◌∙◌}
use Rattle.aq_base.specs.Quals.{has_code}
use Rattle.aq_base.specs.Places.{take-push, HoldsCodes-push, room-from_with_code}
use Rattle.aq_base.proofs.quals.Quals.add.Goals as goal

pub bounds-self-inside-from : goal.bounds-self-inside-from
bounds-self-inside-from c =
    let same : take c.self.inside.count c.self.inside.places ≡ c.args.self.now = c.self.view_is in
    let absent = ap (has_code c.args.code) same ∙ sym c.has.ensures ∙ c.if-not-has.true in
    rw c.from.ensures (room-from_with_code c.self.inside.places c.self.inside.count c.args.code c.self.invariant absent (rw same c.requires))

pub invariant_of-self : goal.invariant_of-self
invariant_of-self c =
    let same : take c.self.inside.count c.self.inside.places ≡ c.args.self.now = c.self.view_is in
    let absent = ap (has_code c.args.code) same ∙ sym c.has.ensures ∙ c.if-not-has.true in
    let room = room-from_with_code c.self.inside.places c.self.inside.count c.args.code c.self.invariant absent (rw same c.requires) in
    rw c.from.ensures (HoldsCodes-push c.self.inside.places c.self.inside.count c.args.code c.self.invariant absent room)

pub returns-then-not-has : goal.returns-then-not-has
returns-then-not-has c =
    let same : take c.self.inside.count c.self.inside.places ≡ c.args.self.now = c.self.view_is in
    let absent = ap (has_code c.args.code) same ∙ sym c.has.ensures ∙ c.if-not-has.true in
    let room = room-from_with_code c.self.inside.places c.self.inside.count c.args.code c.self.invariant absent (rw same c.requires) in
    let gone : has_code c.args.code c.args.self.now ≡ false = rw same at absent in
    rw (c.from.ensures, gone) (take-push c.self.inside.places c.self.inside.count c.args.code c.self.invariant room ∙ ap (λ codes. codes ++ c.args.code ∷ []) same)
