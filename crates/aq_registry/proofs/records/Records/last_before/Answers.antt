use Rattle.std.proofs.Common.{◌∙◌, ap, None}
use Rattle.std.specs.List.{last_or}
use Rattle.aq_registry.proofs.SeriesLemmas.{filter-between}
use Rattle.aq_registry.proofs.records.Records.last_before.Goals as goal

pub returns-clause-last : goal.returns-clause-last
returns-clause-last c =
    c.last_between.ensures.last
    ∙ ap (last_or None) (filter-between c.args.kind c.args.site.now c.args.parameter 0 c.args.end c.of_site-start.result c.of_site-end.result c.args.self.now c.of_site-start.ensures c.of_site-end.ensures)
