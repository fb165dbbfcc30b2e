use Rattle.std.proofs.Common.{◌∙◌, ap, [], refl, subst, sym}
use Rattle.matchit.proofs.OnLiterals.{matchit_on_literals}
use Rattle.aq_rules.specs.Questions.Table.{pattern_of}
use Rattle.aq_http.specs.Routes.{AreApart, routes, with_routes}
use Rattle.aq_http.proofs.routes.Routes.new.Goals as goal

apart : AreApart [] routes
unfolding matchit_on_literals AreApart pattern_of
apart = (refl, (refl, (refl, (refl, (refl, (refl, (refl, (refl, (refl, (refl, (refl, (refl, (refl, (refl, (refl, (refl, (refl, (refl, (refl, (refl, (refl, (refl, (refl, tt)))))))))))))))))))))))

pub add_all-requires : goal.add_all-requires
unfolding pattern_of
add_all-requires c = subst (λ rows. AreApart rows routes) (sym c.new-router.ensures) apart

pub invariant_of-result : goal.invariant_of-result
unfolding pattern_of
invariant_of-result c = c.in_ok-add_all.ensures ∙ ap (λ rows. with_routes rows routes) c.new-router.ensures
