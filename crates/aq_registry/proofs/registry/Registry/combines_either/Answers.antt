use Rattle.std.proofs.Common.{◌∙◌, ap}
use Rattle.std.specs.Prelude.{filter}
use Rattle.std.specs.Map.{values_of}
use Rattle.aq_registry.specs.Places.{lies_between}
use Rattle.aq_registry.proofs.RuleLemmas.{combined_in_part}
use Rattle.aq_registry.proofs.registry.Registry.combines_either.Goals as goal

pub returns : goal.returns
returns c =
    c.any_combines.ensures
    ∙ combined_in_part c.args.self.now c.args.site.now c.args.joined.now c.args.pollutant c.of_kind-start.result c.of_kind-end.result (values_of c.between.result)
    c.of_kind-start.ensures c.of_kind-end.ensures
    (c.between.ensures.records ∙ ap (filter (lies_between c.of_kind-start.result c.of_kind-end.result)) c.self.view_is)
