use Rattle.std.proofs.Common.{◌∙◌, ap}
use Rattle.aq_rules.specs.Office.Questions.{following}
use Rattle.aq_registry.proofs.EntryLemmas.{following-entries}
use Rattle.aq_registry.proofs.records.Records.following.Goals as goal

pub returns : goal.returns
returns c =
    c.first.ensures
    ∙ following-entries c.args.after.now c.behind.result c.self.inside.by_place.entries c.range.result c.behind.ensures c.self.invariant.placed (c.range.ensures.between tt)
    ∙ ap (λ rows. following rows c.args.after.now) c.self.view_is
