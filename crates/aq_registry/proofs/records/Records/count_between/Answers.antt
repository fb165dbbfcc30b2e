use Rattle.std.proofs.Common.{◌∙◌}
use Rattle.aq_registry.proofs.EntryLemmas.{count-between}
use Rattle.aq_registry.proofs.records.Records.count_between.Goals as goal

pub returns : goal.returns
returns c = c.count.ensures ∙ count-between c.args.start c.args.end c.args.self.now c.between.result c.between.ensures.records
