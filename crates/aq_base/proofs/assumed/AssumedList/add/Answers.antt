use Rattle.std.proofs.Common.{◌≢◌, ◌≤◌, ◌<◌, ◌∙◌, arith}
use Rattle.aq_base.specs.Assuming.{no_entry}
use Rattle.aq_base.specs.Padded.{Holds-push}
use Rattle.aq_base.proofs.assumed.AssumedList.add.Goals as goal

pub invariant_of-self : goal.invariant_of-self
invariant_of-self c =
    let few : c.self.inside.count ≤ 64 = c.self.invariant.few in
    let other : c.self.inside.count ≢ 64 = λ e. c.if-from-eq-MOST_ASSUMED.false (c.from.ensures ∙ e) in
    let room : c.self.inside.count < 64 = omega (arith, few, other) in
    rw c.from-2.ensures (Holds-push 64 no_entry c.self.inside.places c.self.inside.count c.args.assumed c.self.invariant room)
