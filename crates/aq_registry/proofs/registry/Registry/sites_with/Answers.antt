use Rattle.std.proofs.Common.{◌≡◌, ◌∙◌, length, ap, sym, arith}
use Rattle.aq_rules.specs.Office.Office.{sites_of}
use Rattle.aq_registry.proofs.RowCounts.{one_where, sites_put}
use Rattle.aq_registry.proofs.registry.Registry.sites_with.Goals as goal

pub returns-then-adds_site : goal.returns-then-adds_site
returns-then-adds_site c =
    let counted : c.self.inside.sites ≡ length (sites_of c.args.self.now) = c.self.invariant.sites_counted ∙ ap (λ rows. length (sites_of rows)) c.self.view_is in
    let new = ap one_where (sym c.adds_site.ensures ∙ c.if-adds_site.true) in
    omega (arith, counted, new, sites_put c.args.row.now c.args.self.now)

pub returns-else-adds_site : goal.returns-else-adds_site
returns-else-adds_site c =
    let counted : c.self.inside.sites ≡ length (sites_of c.args.self.now) = c.self.invariant.sites_counted ∙ ap (λ rows. length (sites_of rows)) c.self.view_is in
    let new = ap one_where (sym c.adds_site.ensures ∙ c.if-adds_site.false) in
    omega (arith, counted, new, sites_put c.args.row.now c.args.self.now)
