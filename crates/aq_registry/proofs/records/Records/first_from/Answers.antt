use Rattle.std.proofs.Common.{◌∙◌}
use Rattle.aq_registry.proofs.SeriesLemmas.{find-from}
use Rattle.aq_registry.proofs.records.Records.first_from.Goals as goal

pub returns : goal.returns
returns c =
    c.first_between.ensures
    ∙ find-from c.args.kind c.args.site.now c.args.parameter c.args.from c.of_site-start.result c.of_site-end.result c.args.self.now c.of_site-start.ensures c.of_site-end.ensures
