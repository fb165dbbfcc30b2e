use Rattle.std.proofs.Common.{◌∙◌, sym}
use Rattle.std.proofs.lemmas.List.{nil_from_length}
use Rattle.aq_staging.proofs.ChangeLemmas.{on_nothing}
use Rattle.aq_staging.proofs.changes.Changes.onto.Goals as goal

pub returns-then-count-eq0 : goal.returns-then-count-eq0
returns-then-count-eq0 c =
    on_nothing c.args.self c.args.shelf c.count-then-count-eq0.ensures.shelf.rising (nil_from_length c.args.shelf (sym c.count.ensures.count ∙ c.if-count-eq0.true))
