use Rattle.std.proofs.Common.{◌∙◌, ◌+◌, ap}
use Rattle.std.specs.Prelude.{count_by}
use Rattle.aq_rules.specs.Office.Office.{parameter_number}
use Rattle.aq_registry.specs.Places.{lies_between, of_site}
use Rattle.aq_registry.proofs.SeriesLemmas.{count-series}
use Rattle.aq_registry.proofs.registry.Registry.count.Goals as goal

pub returns : goal.returns
returns c =
    c.count_between.ensures
    ∙ ap (count_by (lies_between c.of_site-start.result c.of_site-end.result)) c.self.view_is
    ∙ count-series c.args.kind c.args.site.now (parameter_number c.args.pollutant) c.of_site-start.result c.of_site-end.result c.args.self.now
    (c.of_site-start.ensures ∙ ap (λ p. of_site c.args.kind c.args.site.now p 0) c.parameter-parameter.ensures)
    (c.of_site-end.ensures ∙ ap (λ p. of_site c.args.kind c.args.site.now (p + 1) 0) c.parameter-parameter.ensures)
