use Rattle.std.proofs.Common.{◌∙◌, ap, refl}
use Rattle.std.specs.Prelude.{option_map}
use Rattle.matchit.specs.Seek.{first}
use Rattle.aq_http.specs.Routes.{all_routes}
use Rattle.aq_http.proofs.Routed.{no_text_no_route, text_routed}
use Rattle.aq_http.proofs.routes.Routes.route.Goals as goal

pub returns-in-Err : goal.returns-in-Err
returns-in-Err c = no_text_no_route c.args.path.now c.in-Err.ensures.cases.0

pub returns-in-Ok : goal.returns-in-Ok
returns-in-Ok c =
    let text = c.in-Ok.ensures.cases in
    c.route_of_text.ensures
    ∙ ap (λ t. option_map (λ row. row.value) (first all_routes t)) text.0
    ∙ text_routed c.args.path.now (first all_routes c.args.path.now) text.1 refl
