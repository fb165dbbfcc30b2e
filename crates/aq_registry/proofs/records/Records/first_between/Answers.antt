use Rattle.std.proofs.Common.{◌∙◌}
use Rattle.std.specs.Map.{values_of}
use Rattle.aq_registry.proofs.EntryLemmas.{first-between}
use Rattle.aq_registry.proofs.records.Records.first_between.Goals as goal

pub returns : goal.returns
returns c = c.first.ensures ∙ first-between c.args.start c.args.end c.args.self.now (values_of c.between.result) c.between.ensures.records
