use Rattle.std.proofs.Common.{◌∙◌, ap}
use Rattle.aq_rules.specs.Office.Questions.{record_of}
use Rattle.aq_registry.proofs.EntryLemmas.{lookup-place}
use Rattle.aq_registry.proofs.records.Records.get.Goals as goal

pub returns : goal.returns
returns c =
    c.copied.ensures ∙ c.get.ensures.value
    ∙ lookup-place c.of.result c.args.key.now c.self.inside.by_place.entries c.of.ensures c.self.invariant.placed
    ∙ ap (λ rows. record_of rows c.args.key.now) c.self.view_is
