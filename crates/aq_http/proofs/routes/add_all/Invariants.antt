use Rattle.std.proofs.Common.{◌≡◌, map, drop}
use Rattle.aq_http.specs.Routes.{with_routes}
use Rattle.aq_http.proofs.routes.add_all.Given as goal

abbrev pub invariant-loop-entry : goal.invariant-loop-entry
invariant-loop-entry l =
    with_routes l.router (map (λ entry. (entry.0.now, entry.1)) (drop l.entry-index l.routes)) ≡ with_routes l.fn.router (map (λ entry. (entry.0.now, entry.1)) l.routes)
