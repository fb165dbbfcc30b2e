use Rattle.std.proofs.Common.{◌≡◌, ◌≢◌, ◌≤◌, ◌<◌, take, sym, ap, ◌∙◌, arith}
use Rattle.aq_base.specs.Sites.{has_site}
use Rattle.aq_base.specs.SitePlaces.{HoldsSites-push}
use Rattle.aq_base.proofs.area.SiteList.add.Goals as goal

pub invariant_of-self : goal.invariant_of-self
invariant_of-self c =
    let few : c.self.inside.count ≤ 32 = c.self.invariant.held.few in
    let other : c.self.inside.count ≢ 32 = λ e. c.if-from-eq-MOST_AREA_SITES.false (c.from.ensures ∙ e) in
    let room : c.self.inside.count < 32 = omega (arith, few, other) in
    let same : take c.self.inside.count c.self.inside.places ≡ c.args.self.now = c.self.view_is in
    let absent = ap (has_site c.args.site) same ∙ sym c.has.ensures ∙ c.if-has.false in
    rw c.from-2.ensures (HoldsSites-push c.self.inside.places c.self.inside.count c.args.site c.self.invariant absent room)
